use Rattle.std.proofs.Common.{◌≡◌, ◌+◌, ◌-◌, ◌*◌, ◌≤◌, length, ap, sym, ◌∙◌, arith}
use Rattle.std.proofs.lemmas.Result.{err_from_is_err_and}
use Rattle.frames.specs.Little.{le4}
use Rattle.frames.proofs.Faults.{stops, goes, told_at}
use Rattle.constraints.specs.Opened.{beyond}
use Rattle.constraints.proofs.Walk.{lists_go, lists_short, lists_done, lists_over}
use Rattle.constraints.proofs.Lists.{list_size}
use Rattle.constraints.proofs.rows.check_lists.Goals as goal

pub returns-in_err-list : goal.returns-in_err-list
returns-in_err-list c =
    let p = err_from_is_err_and c.from_residual.result c.from_residual.ensures.1 in
    let e = c.in_err-list.ensures in
    rw (p.1, p.2) (c.loop.invariant.1 ∙ lists_short _ _ _ _ _ _ (omega arith) e.0 ∙ sym e.1, tt)

pub returns-in_err-check_items : goal.returns-in_err-check_items
returns-in_err-check_items c =
    let p = err_from_is_err_and c.from_residual-in_err-check_items.result c.from_residual-in_err-check_items.ensures.1 in
    let e = c.in_ok-list.ensures in
    let f : beyond c.args.bytes.now c.loop.at ≤ c.args.stop = omega (arith, e) in
    let t = c.in_err-check_items.ensures c.args.bytes.now (le4 c.args.bytes.now c.loop.at) (ap length e.0 ∙ list_size _ _ (omega arith)) e.0 in
    rw (p.1, p.2) (c.loop.invariant.1 ∙ lists_go _ _ _ _ _ _ (omega arith) f ∙ stops _ _ _ t.0, tt)

pub loop-preserved : goal.loop-preserved
loop-preserved c =
    let e = c.in_ok-list.ensures in
    let f : beyond c.args.bytes.now c.loop.at ≤ c.args.stop = omega (arith, e) in
    let t = c.in_ok-check_items.ensures c.args.bytes.now (le4 c.args.bytes.now c.loop.at) (ap length e.0 ∙ list_size _ _ (omega arith)) e.0 in
    let j : 3 * c.args.header.rows - (c.loop.counter + 1) ≡ 3 * c.args.header.rows - c.loop.counter - 1 = omega arith in
    (e.2, simp (e.1, j) (c.loop.invariant.1 ∙ lists_go _ _ _ _ _ _ (omega arith) f ∙ goes _ _ t.0))

pub returns-then-at-stop : goal.returns-then-at-stop
returns-then-at-stop c =
    let z : 3 * c.args.header.rows - c.loop.counter ≡ 0 = omega arith in
    ((rw z at c.loop.invariant.1) ∙ lists_over _ _ _ _ _ c.if-at-stop.true ∙ sym (told_at _ _ _ c.at.ensures), tt)

pub returns : goal.returns
returns c =
    let z : 3 * c.args.header.rows - c.loop.counter ≡ 0 = omega arith in
    ((rw z at c.loop.invariant.1) ∙ lists_done _ _ _ _ _ c.if-at-stop.false, tt)
