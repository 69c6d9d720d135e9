use Rattle.std.proofs.Common.{◌≡◌, ◌-◌, length, sym, refl, ap, ◌∙◌, arith, length-drop}
use Rattle.frames.proofs.Faults.{told_at}
use Rattle.assignments.proofs.Walk.{valued_more, value_out, valued_done}
use Rattle.assignments.proofs.Parts.{front}
use Rattle.assignments.proofs.checks.check_values.Goals as goal

pub loop-value-init : goal.loop-value-init
loop-value-init c = (refl, λ xs n l p. (n, l, p, refl))

pub returns-then-value-prime : goal.returns-then-value-prime
returns-then-value-prime c = λ xs n l p.
    let i = c.loop-value.invariant.1 xs n l p in
    let t = c.in-Some.ensures in
    let f = front xs c.loop-value.at i.0 _ i.2 i.1 t.0 in
    (i.3 ∙ value_out _ _ _ _ f.some (omega (arith, t.1, f.value)) ∙ sym (told_at _ _ _ c.at.ensures), tt)

pub loop-value-preserved : goal.loop-value-preserved
loop-value-preserved c =
    let t = c.in-Some.ensures in (
      omega (arith, t.0, ap length t.2, length-drop 8 c.loop-value.rest.now),
      λ xs n l p.
          let i = c.loop-value.invariant.1 xs n l p in
          let f = front xs c.loop-value.at i.0 _ i.2 i.1 t.0 in
          (i.0 - 1, ap length t.2 ∙ f.size, t.2 ∙ f.others, i.3 ∙ valued_more _ _ _ _ f.some (omega (arith, t.1, f.value))),
    )

pub returns : goal.returns
returns c = λ xs n l p.
    let i = c.loop-value.invariant.1 xs n l p in
    let z : i.0 ≡ 0 = omega (arith, i.1, c.in_default.ensures) in
    (rw z at i.3 ∙ valued_done _ _ _, tt)
