use Rattle.std.proofs.Common.{◌≡◌, ℕ, ◌<◌, get_or}
use Rattle.transform.specs.Polynomial.{coefficient}
use Rattle.sheet.specs.Outcomes.{shape_of}
use Rattle.square.specs.Rows.{position}
use Rattle.square.specs.Program.{extended_at}
use Rattle.square.proofs.consistent.ConsistentSheet.write_values.Given as goal

abbrev pub invariant-loop-w : goal.invariant-loop-w
invariant-loop-w g l =
    let O = g.F.Field.ops in
    (i : ℕ) → i < l.w → get_or l.out i O.zero ≡ extended_at O (shape_of l.self.head.now) (position O l.self.used.now) (coefficient O l.self.values.now) i
