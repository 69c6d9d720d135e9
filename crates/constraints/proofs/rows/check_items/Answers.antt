use Rattle.std.proofs.Common.{◌≡◌, ◌-◌, length, sym, refl, ap, ◌∙◌, arith, length-drop}
use Rattle.frames.proofs.Faults.{told_at}
use Rattle.constraints.proofs.Walk.{items_more, wire_out, number_out, items_done}
use Rattle.constraints.proofs.Lists.{front}
use Rattle.constraints.proofs.rows.check_items.Goals as goal

pub loop-item-init : goal.loop-item-init
loop-item-init c =
    let e = ap (λ s. s.rest.now) c.into_iter-item-iterator.ensures.into_iter_gives ∙ c.new-item-items.ensures in
    (omega (arith, ap length e), λ xs n l p. (n, ap length e ∙ l, e ∙ p, refl))

pub returns-then-item-header : goal.returns-then-item-header
returns-then-item-header c = λ xs n l p.
    let i = c.loop-item.invariant.1 xs n l p in
    let t = c.in-Some.ensures.steps.bytes in
    let f = front xs c.loop-item.at i.0 _ i.2 i.1 t.0 in
    (i.3 ∙ wire_out _ _ _ _ _ f.some (omega (arith, t.1, f.wire)) ∙ sym (told_at _ _ _ c.at.ensures), tt)

pub returns-then-item-header-2 : goal.returns-then-item-header-2
returns-then-item-header-2 c = λ xs n l p.
    let i = c.loop-item.invariant.1 xs n l p in
    let t = c.in-Some.ensures.steps.bytes in
    let f = front xs c.loop-item.at i.0 _ i.2 i.1 t.0 in
    (i.3 ∙ number_out _ _ _ _ _ f.some (omega (arith, t.1, f.wire)) (omega (arith, t.2, f.coefficient)) ∙ sym (told_at _ _ _ c.at-then-item-header-2.ensures), tt)

pub loop-item-preserved : goal.loop-item-preserved
loop-item-preserved c =
    let t = c.in-Some.ensures.steps.bytes in (
      omega (arith, t.0, ap length t.3, length-drop 12 c.loop-item.item-iterator.rest.now),
      λ xs n l p.
          let i = c.loop-item.invariant.1 xs n l p in
          let f = front xs c.loop-item.at i.0 _ i.2 i.1 t.0 in
          (i.0 - 1, ap length t.3 ∙ f.size, t.3 ∙ f.others, i.3 ∙ items_more _ _ _ _ _ f.some (omega (arith, t.1, f.wire)) (omega (arith, t.2, f.coefficient))),
    )

pub returns : goal.returns
returns c = λ xs n l p.
    let i = c.loop-item.invariant.1 xs n l p in
    let z : i.0 ≡ 0 = omega (arith, i.1, c.in-None.ensures.steps.bytes.0) in
    (rw z at i.3 ∙ items_done _ _ _ _, tt)
