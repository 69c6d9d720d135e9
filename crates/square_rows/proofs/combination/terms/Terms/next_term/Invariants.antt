use Rattle.std.proofs.Common.{◌≡◌, ℕ, ◌-◌, ◌<◌, ◌≤◌}
use Rattle.sheet.specs.Outcomes.{shape_of}
use Rattle.square.specs.Rows.{position}
use Rattle.square_rows.specs.Combined.{combined}
use Rattle.square_rows.proofs.combination.terms.Terms.next_term.Given as goal

abbrev pub invariant-loop-at : goal.invariant-loop-at
invariant-loop-at g l =
    let O = g.F.Field.ops in
    (l.self.from ≤ l.at)
    × ((w : ℕ) → l.self.from ≤ w → w < l.at → combined O (shape_of l.self.head.now) (position O l.self.used.now) l.self.combination.now w ≡ O.zero)

abbrev pub decreases-loop-at : goal.decreases-loop-at
decreases-loop-at g l = l.stop - l.at
