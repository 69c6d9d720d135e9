-- The point is a power of the step, and the coefficients before it stand.
use Rattle.std.proofs.Common.{◌≡◌, ℕ, ◌*◌, ◌<◌, [], get_or}
use Rattle.field.specs.Operations.{power}
use Rattle.transform.specs.Polynomial.{table, coefficient, value_at}
use Rattle.sheet.specs.Shape.{k, stride}
use Rattle.sheet.specs.Outcomes.{shape_of}
use Rattle.square.specs.Rows.{position}
use Rattle.square.specs.Program.{u_row}
use Rattle.square.proofs.consistent.ConsistentSheet.write_first.Given as goal

abbrev pub invariant-loop-coefficient : goal.invariant-loop-coefficient
invariant-loop-coefficient g l =
    let O = g.F.Field.ops in
    let S = shape_of l.self.head.now in
    let sums = table (k S) (λ t. u_row O S (position O []) (coefficient O l.self.values.now) (t * stride S)) in
    (l.point ≡ power O l.step l.coefficient-index)
    × ((j : ℕ) → j < l.coefficient-index → get_or l.out j O.zero ≡ O.mul l.scale (value_at O sums (power O l.step j)))
