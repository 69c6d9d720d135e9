use Rattle.std.proofs.Common.{◌≡◌, ◌+◌, ◌*◌, ◌≤◌}
use Rattle.constraints.specs.Reader.{again}
use Rattle.loading.specs.Rows.{rows_ahead, item_count}
use Rattle.loading.proofs.rows.count_items.Given as goal

-- each item counted lies before the reader's place, so the count has room
abbrev pub invariant-loop-row : goal.invariant-loop-row
invariant-loop-row l =
    (again l.reader ≡ again l.initial.reader)
    × (12 * l.count ≤ l.reader.at)
    × (l.count + item_count (rows_ahead l.reader) ≡ item_count (rows_ahead l.initial.reader))

abbrev pub decreases-loop-row : goal.decreases-loop-row
decreases-loop-row l = l.reader.left
