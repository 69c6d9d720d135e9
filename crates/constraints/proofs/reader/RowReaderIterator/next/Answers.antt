use Rattle.std.proofs.Common.{◌<◌, ◌≤◌, length, refl, inl, inr, arith}
use Rattle.std.proofs.lemmas.Bool.{cases_lt}
use Rattle.constraints.proofs.Handed.{none_left, there, next_line}
use Rattle.constraints.proofs.reader.RowReaderIterator.next.Goals as goal

pub returns-then-self-eq0-clause-steps : goal.returns-then-self-eq0-clause-steps
returns-then-self-eq0-clause-steps c =
    let s = c.args.self.now in
    let no : 0 < s.left → s.stop ≤ length s.bytes.now → s.at ≤ s.stop → ⊥ =
    λ a b d. elim c.then-self-eq0.branch [
      | goal.then-self-eq0-via-then-self-eq0 w ↦ omega (arith, w.if-self-eq0.true)
      | goal.then-self-eq0-via-else-self-eq0+then-self w ↦ omega (arith, w.if-self.true)
      | goal.then-self-eq0-via-else-self-eq0+else-self+then-self-2 w ↦ omega (arith, w.if-self-2.true)
    ] in
    record {
      kept = refl;
      row = (refl, λ h. no h.left h.within (omega (arith, h.inside)));
      read = λ ls h. none_left _ ls h (elim (cases_lt 0 s.left) [
        | inl f ↦ absurd (no f h.within (omega (arith, h.size)))
        | inr f ↦ omega arith
      ]);
    }

pub returns-in_err-row-clause-steps : goal.returns-in_err-row-clause-steps
returns-in_err-row-clause-steps c =
    rw c.from_residual.ensures (record {
      kept = refl;
      row = (refl, λ h. omega (arith, h.inside, c.in_err-row.ensures));
      read = λ ls h. none_left _ ls h (elim (cases_lt 0 c.args.self.now.left) [
        | inl f ↦ omega (arith, there _ ls h f, c.in_err-row.ensures)
        | inr f ↦ omega arith
      ]);
    })

pub returns-clause-steps : goal.returns-clause-steps
returns-clause-steps c =
    let e = c.in_ok-row.ensures in
    record {
      kept = refl;
      row = (record { left = omega arith; inside = omega (arith, e.1, e.2); within = omega arith }, e.0, e.1, omega arith);
      read = λ ls h. next_line c.args.self.now _ ls _ refl refl e.1 (omega arith) e.0 h;
    }
