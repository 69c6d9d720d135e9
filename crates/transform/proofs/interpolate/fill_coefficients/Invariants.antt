use Rattle.std.proofs.Common.{◌≡◌, ℕ, ◌<◌, get_or}
use Rattle.field.specs.Operations.{power}
use Rattle.transform.specs.Polynomial.{value_at}
use Rattle.transform.proofs.interpolate.fill_coefficients.Given as goal

-- the point is a power of the step, and the coefficients before it stand
abbrev pub invariant-loop-coefficient : goal.invariant-loop-coefficient
invariant-loop-coefficient g l =
    let O = g.F.Field.ops in
    (l.point ≡ power O l.step l.coefficient-index)
    × ((j : ℕ) → j < l.coefficient-index → get_or l.out j O.zero ≡ O.mul l.scale (value_at O l.values.coefficients.now (power O l.step j)))
