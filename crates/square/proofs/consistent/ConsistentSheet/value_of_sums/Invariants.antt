-- The value so far is that of the coefficients from t on.
use Rattle.std.proofs.Common.{◌≡◌, ◌+◌, ◌-◌, ◌*◌, []}
use Rattle.transform.specs.Polynomial.{coefficient}
use Rattle.transform.proofs.Series.{eval}
use Rattle.sheet.specs.Shape.{k, stride}
use Rattle.sheet.specs.Outcomes.{shape_of}
use Rattle.square.specs.Rows.{position}
use Rattle.square.specs.Program.{u_row}
use Rattle.square.proofs.consistent.ConsistentSheet.value_of_sums.Given as goal

abbrev pub invariant-loop-t : goal.invariant-loop-t
invariant-loop-t g l =
    let O = g.F.Field.ops in
    let S = shape_of l.self.head.now in
    l.value ≡ eval O (k S - l.t) (λ i. u_row O S (position O []) (coefficient O l.self.values.now) ((l.t + i) * stride S)) l.x
