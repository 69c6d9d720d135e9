use Rattle.std.proofs.Common.{◌≡◌, List, map, ap, ◌∙◌, arith}
use Rattle.std.specs.Iterator.Adapters.{enumerate_source, enumerate_count}
use Rattle.constraints.specs.Circuit.{Line}
use Rattle.loading.specs.Entries.{line_below, entries_from}
use Rattle.loading.proofs.Lines.{rows_none, rows_more}
use Rattle.loading.proofs.Entered.{enters_none, enters_first}
use Rattle.loading.proofs.rows.enter_rows.Goals as goal

pub loop-number-init : goal.loop-number-init
loop-number-init g c =
    let e = c.into_iter-number-iterator.ensures.into_iter_gives in
    let s : enumerate_source c.into_iter-number-iterator.result ≡ c.args.reader = ap enumerate_source e ∙ c.enumerate-number-items.ensures.source in
    let n : enumerate_count c.into_iter-number-iterator.result ≡ 0 = ap enumerate_count e ∙ c.enumerate-number-items.ensures.count in
    (omega (arith, n, ap (λ r. r.left) s), λ h es x. rw (n, s) at x)

pub loop-number-preserved : goal.loop-number-preserved
loop-number-preserved g c =
    let O = g.F.Field.ops in
    let p = g.F.FileField.prime in
    let it = c.loop-number.number-iterator in
    let t = c.in-Some.ensures.steps in
    let r = t.0.row in
    let more = rows_more (enumerate_source it) (enumerate_source c.next.new.self) c.in-Some.row t.0.kept r.0 r.1 r.2 r.3 in
    let all = ap (λ (ls : List Line). entries_from O (enumerate_count it) (map (line_below p) ls)) more in
    (omega (arith, c.loop-number.invariant.0, t.2, r.3), λ h es rest. c.loop-number.invariant.1 h es (enters_first O p _ _ _ _ _ _ h es _ (rw t.1 at c.enter_row.ensures) all (rw t.2 at rest)))

pub returns : goal.returns
returns g c =
    let none = rows_none (enumerate_source c.loop-number.number-iterator) c.in-None.ensures.steps.0.row.1 in
    c.loop-number.invariant.1 _ _ (rw none (enters_none g.F.Field.ops _ _))
