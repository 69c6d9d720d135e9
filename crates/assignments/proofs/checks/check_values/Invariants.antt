use Rattle.std.proofs.Common.{◌≡◌, ℕ, ◌+◌, ◌*◌, List, length}
use Rattle.frames.specs.Little.{part}
use Rattle.assignments.specs.Assigned.{valued}
use Rattle.assignments.proofs.checks.check_values.Given as goal

-- in any file, what is left are values, and their check is what all of them come to
abbrev pub invariant-loop-value : goal.invariant-loop-value
invariant-loop-value l =
    (l.at + length l.rest ≡ l.body.at + length l.body.bytes.now)
    × ((xs : List ℕ) (n : ℕ) → length l.body.bytes.now ≡ n * 8 → l.body.bytes.now ≡ part xs l.body.at (n * 8)
    → (m : ℕ) × (length l.rest ≡ m * 8) × (l.rest ≡ part xs l.at (m * 8)) × (valued xs l.prime n l.body.at ≡ valued xs l.prime m l.at))

abbrev pub decreases-loop-value : goal.decreases-loop-value
decreases-loop-value l = length l.rest
