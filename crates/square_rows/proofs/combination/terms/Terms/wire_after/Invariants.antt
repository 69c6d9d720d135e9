use Rattle.std.proofs.Common.{◌≡◌, ℕ, ◌<◌, ◌≤◌, take}
use Rattle.sheet.specs.Outcomes.{shape_of}
use Rattle.square.specs.Rows.{position}
use Rattle.square_rows.specs.Combined.{combined}
use Rattle.square_rows.proofs.combination.terms.Terms.wire_after.Given as goal

abbrev pub invariant-loop-e : goal.invariant-loop-e
invariant-loop-e g l =
    let O = g.F.Field.ops in
    (l.at ≤ l.nearest) × (l.nearest ≤ l.self.head.now.columns)
    × ((w : ℕ) → l.at ≤ w → w < l.nearest → combined O (shape_of l.self.head.now) (position O (take l.e-index l.self.used.now)) l.self.combination.now w ≡ O.zero)
