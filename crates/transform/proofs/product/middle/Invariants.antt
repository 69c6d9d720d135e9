use Rattle.std.proofs.Common.{◌≡◌, ◌-◌, length}
use Rattle.std.specs.Slice.Iter.{iter_rest}
use Rattle.std.specs.Iterator.Adapters.{rev_source, zip_first, zip_second}
use Rattle.transform.specs.Polynomial.{product_at}
use Rattle.transform.proofs.product.middle.Given as goal

-- as many are left of the one as of the other, and what they give makes up the total
abbrev pub invariant-loop-x : goal.invariant-loop-x
invariant-loop-x g l =
    let O = g.F.Field.ops in
    let a = iter_rest (zip_first l.x-iterator) in
    let b = iter_rest (rev_source (zip_second l.x-iterator)) in
    (length a ≡ length b) × (O.add l.total (product_at O a b (length a - 1)) ≡ product_at O l.a l.b (length l.a - 1))
