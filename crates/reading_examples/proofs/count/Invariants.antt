use Rattle.std.proofs.Common.{◌≡◌, ◌+◌, ◌≤◌, List, length}
use Rattle.constraints.specs.Circuit.{Line}
use Rattle.constraints.specs.Reader.{Ahead}
use Rattle.reading_examples.proofs.count.Given as goal

abbrev pub invariant-loop-n : goal.invariant-loop-n
invariant-loop-n l = (l.n + l.reader.left ≤ l.initial.reader.left) × ((ls : List Line) → Ahead l.initial.reader ls → (rest : List Line) × Ahead l.reader rest × (l.n + length rest ≡ length ls))

abbrev pub decreases-loop-n : goal.decreases-loop-n
decreases-loop-n l = l.reader.left
