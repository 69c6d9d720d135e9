use Rattle.std.proofs.Common.{◌≡◌, ◌^◌}
use Rattle.field.specs.Operations.{ones}
use Rattle.transform.proofs.interpolate.power_of_two.Given as goal

abbrev pub invariant-loop : goal.invariant-loop
invariant-loop g l = l.n ≡ ones g.F.Field.ops (2 ^ l.counter)
