-- What load owes, line by line.
use Rattle.std.proofs.Common.{◌≡◌, ℕ, Bool, true, false, ◌&&◌, eqb, leb, Some, None, refl, arith, eq-eqb}
use Rattle.std.proofs.lemmas.Bool.{and_parts, eqb-true}
use Rattle.refusal.specs.Due.{Due, unless}
use Rattle.field.specs.Operations.{Operations}
use Rattle.frames.specs.Faults.{check}
use Rattle.frames.proofs.Faults.{passed}
use Rattle.sheet.specs.Shape.{Shape, log_of_n}
use Rattle.sheet.specs.Rules.{table_size, in_limits, planned}
use Rattle.runs.proofs.Stands.{line_passed}
use Rattle.runs.proofs.Told.{planned_refused}
use Rattle.loading.specs.Loaded.{numbers_due}

module _ {F : Type 0} (O : Operations F) (p prime place : ℕ) (S : Shape) (entries values : ℕ) where
  pub due_passes : (below : Due) → numbers_due O p prime place S entries values None ≡ None → numbers_due O p prime place S entries values below ≡ below
  due_passes below h = go (eqb prime p) (in_limits S) (leb (log_of_n S) O.adicity) (eqb values S.m && eqb entries table_size) h
    where
      go : (a b c d : Bool) → check a 9 place (unless b 1 (unless c 2 (unless d 5 None))) ≡ None → check a 9 place (unless b 1 (unless c 2 (unless d 5 below))) ≡ below
      go true true true true e = refl
      go true true true false e = let z : ◌≡◌ {A = ℕ} 0 1 = cc in absurd (omega arith)
      go true true false d e = let z : ◌≡◌ {A = ℕ} 0 1 = cc in absurd (omega arith)
      go true false c d e = let z : ◌≡◌ {A = ℕ} 0 1 = cc in absurd (omega arith)
      go false b c d e = let z : ◌≡◌ {A = ℕ} 0 1 = cc in absurd (omega arith)

  pub due_refused : (below : Due) (f : ℕ × ℕ) → numbers_due O p prime place S entries values None ≡ Some f → numbers_due O p prime place S entries values below ≡ Some f
  due_refused below f h = go (eqb prime p) (in_limits S) (leb (log_of_n S) O.adicity) (eqb values S.m && eqb entries table_size) h
    where
      go : (a b c d : Bool) → check a 9 place (unless b 1 (unless c 2 (unless d 5 None))) ≡ Some f → check a 9 place (unless b 1 (unless c 2 (unless d 5 below))) ≡ Some f
      go true true true true e = let z : ◌≡◌ {A = ℕ} 0 1 = cc in absurd (omega arith)
      go true true true false e = e
      go true true false d e = e
      go true false c d e = e
      go false b c d e = e

  pub plan_refused : (below : Due) (number at : ℕ) → prime ≡ p → planned O S None ≡ Some (number, at) → numbers_due O p prime place S entries values below ≡ Some (number, at)
  plan_refused below number at e h = rw (eq-eqb prime p e) (planned_refused O S _ number at h)

  -- what the lines that pass tell
  pub due_prime : (below : Due) → numbers_due O p prime place S entries values below ≡ None → prime ≡ p
  due_prime below h = eqb-true prime p (passed (eqb prime p) _ 9 place h).0

  pub due_rest : (below : Due) → numbers_due O p prime place S entries values below ≡ None → ((eqb values S.m && eqb entries table_size) ≡ true) × (below ≡ None)
  due_rest below h =
      let fit = unless (eqb values S.m && eqb entries table_size) 5 below in
      let root = unless (leb (log_of_n S) O.adicity) 2 fit in
      let limits = (line_passed (in_limits S) 1 root (passed (eqb prime p) (unless (in_limits S) 1 root) 9 place h).1).1 in
      line_passed (eqb values S.m && eqb entries table_size) 5 below (line_passed (leb (log_of_n S) O.adicity) 2 fit limits).1

  pub due_entries : (below : Due) → numbers_due O p prime place S entries values below ≡ None → entries ≡ table_size
  due_entries below h = eqb-true entries table_size (and_parts (eqb values S.m) _ (due_rest below h).0).1
