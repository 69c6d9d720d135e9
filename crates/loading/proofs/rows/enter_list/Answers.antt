use Rattle.std.proofs.Common.{sym, ap, ◌∙◌}
use Rattle.loading.proofs.Items.{items_none, items_more}
use Rattle.loading.proofs.Entered.{enters_none, entries_cons, enters_first}
use Rattle.loading.proofs.rows.enter_list.Goals as goal

pub loop-item-init : goal.loop-item-init
loop-item-init g c = λ h es e. rw (sym (ap (λ s. s.rest.now) c.into_iter-item-iterator.ensures.into_iter_gives ∙ c.new-item-items.ensures)) e

pub loop-item-preserved : goal.loop-item-preserved
loop-item-preserved g c =
    let O = g.F.Field.ops in
    let p = g.F.FileField.prime in
    let t = c.in-Some.ensures.steps.bytes in
    let more = items_more _ _ _ t.0 t.1 t.2 t.3 in
    λ h es rest. c.loop-item.invariant h es
    (enters_first O p _ _ _ _ _ _ _ _ _ c.enter_item.ensures (entries_cons O p _ _ _ _ _ more) rest)

pub returns : goal.returns
returns g c =
    let O = g.F.Field.ops in
    let p = g.F.FileField.prime in
    let none = items_none _ c.in-None.ensures.steps.bytes.0 in
    c.loop-item.invariant _ _ (rw none (enters_none O _ _))
