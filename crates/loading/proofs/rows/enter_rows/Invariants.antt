use Rattle.std.proofs.Common.{◌+◌, ◌≤◌, List, map}
use Rattle.std.specs.Iterator.Adapters.{enumerate_source, enumerate_count}
use Rattle.sheet.specs.declared.head.Head.{Head}
use Rattle.sheet.specs.declared.entry.Entry.{Entry}
use Rattle.loading.specs.Rows.{rows_ahead}
use Rattle.loading.specs.Entries.{line_below, entries_from, EntersAll}
use Rattle.loading.proofs.rows.enter_rows.Given as goal

-- who enters the rows that are left has entered all, from the start
abbrev pub invariant-loop-number : goal.invariant-loop-number
invariant-loop-number g l =
    (enumerate_count l.number-iterator + (enumerate_source l.number-iterator).left ≤ l.fn.reader.left)
    × ((h : Head) (es : List (Entry g.row.F.Denot))
    → EntersAll g.F.Field.ops l.head l.entries (entries_from g.F.Field.ops (enumerate_count l.number-iterator) (map (line_below g.F.FileField.prime) (rows_ahead (enumerate_source l.number-iterator)))) h es
    → EntersAll g.F.Field.ops l.initial.head l.initial.entries (entries_from g.F.Field.ops 0 (map (line_below g.F.FileField.prime) (rows_ahead l.fn.reader))) h es)
