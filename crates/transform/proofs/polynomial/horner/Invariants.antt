use Rattle.std.proofs.Common.{◌≡◌, List, ◌++◌}
use Rattle.std.specs.Slice.Iter.{iter_rest}
use Rattle.std.specs.Iterator.Adapters.{rev_source}
use Rattle.transform.specs.Polynomial.{value_at}
use Rattle.transform.proofs.polynomial.horner.Given as goal

-- the value is that of the coefficients behind those still to come
abbrev pub invariant-loop-c : goal.invariant-loop-c
invariant-loop-c g l =
    (done : List g.row.F.Denot) × (iter_rest (rev_source l.c-iterator) ++ done ≡ l.coefficients) × (l.value ≡ value_at g.F.Field.ops done l.x)
