-- The product so far is a power.
use Rattle.std.proofs.Common.{◌≡◌}
use Rattle.field.specs.Operations.{power}
use Rattle.square.proofs.public.power_of.Given as goal

abbrev pub invariant-loop : goal.invariant-loop
invariant-loop g l = l.product ≡ power g.F.Field.ops l.x l.counter
