-- The sums before r stand.
use Rattle.std.proofs.Common.{◌≡◌, ℕ, ◌<◌}
use Rattle.transform.specs.Polynomial.{coefficient}
use Rattle.sheet.specs.Outcomes.{shape_of}
use Rattle.square.specs.Rows.{position}
use Rattle.square.specs.Program.{u_row, extended}
use Rattle.square.proofs.consistent.ConsistentSheet.write_left_sums.Given as goal

abbrev pub invariant-loop-r : goal.invariant-loop-r
invariant-loop-r g l =
    let O = g.F.Field.ops in
    let S = shape_of l.self.head.now in
    let c = position O l.self.used.now in
    (i : ℕ) → i < l.r → coefficient O l.sums i ≡ u_row O S c (coefficient O (extended O S c (coefficient O l.self.values.now))) i
