use Rattle.std.proofs.Common.{◌≡◌, ◌-◌, length, rules}
use Rattle.std.specs.Slice.Iter.{iter_rest}
use Rattle.std.specs.Iterator.Adapters.{rev_source, zip_first, zip_second}
use Rattle.transform.specs.Polynomial.{product_at}
use Rattle.transform.proofs.Windows.{middle_start, middle_more, middle_all}
use Rattle.transform.proofs.product.middle.Goals as goal

pub loop-x-init : goal.loop-x-init
loop-x-init g c = (search rules, middle_start g.met.F.Field.laws c.zero-total.result _ _ _ _ c.zero-total.ensures (search rules) (search rules))

pub loop-x-preserved : goal.loop-x-preserved
loop-x-preserved g c =
    let a = c.args.a.now in
    let rest = c.loop-x.x-iterator in
    let rest' = c.next.new.self in
    let turn = c.in-Some.ensures.steps in
    middle_more g.met.F.Field.laws c.in-Some.x.now c.in-Some.y.now c.mul.result c.loop-x.total c.add-total.result
    (product_at g.F.Field.ops a c.args.b.now (length a - 1))
    (iter_rest (zip_first rest)) (iter_rest (zip_first rest')) (iter_rest (rev_source (zip_second rest))) (iter_rest (rev_source (zip_second rest')))
    c.mul.ensures c.add-total.ensures turn.0 turn.1 c.loop-x.invariant.0 c.loop-x.invariant.1

pub returns : goal.returns
returns g c =
    let turn = c.in-None.ensures.steps in
    let none : length (iter_rest (zip_first c.loop-x.x-iterator)) ≡ 0 = search rules in
    middle_all g.met.F.Field.laws c.loop-x.total _ _ _ c.loop-x.invariant.0 none c.loop-x.invariant.1
