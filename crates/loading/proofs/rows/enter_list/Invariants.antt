use Rattle.std.proofs.Common.{List}
use Rattle.sheet.specs.declared.head.Head.{Head}
use Rattle.sheet.specs.declared.entry.Entry.{Entry}
use Rattle.sheet.specs.Matrix.{number_of}
use Rattle.loading.specs.Rows.{items_of}
use Rattle.loading.specs.Entries.{below, list_entries, EntersAll}
use Rattle.loading.proofs.rows.enter_list.Given as goal

-- who enters the items that are left has entered all, from the start
abbrev pub invariant-loop-item : goal.invariant-loop-item
invariant-loop-item g l =
    (h : Head) (es : List (Entry g.row.F.Denot))
    → EntersAll g.F.Field.ops l.head l.entries (list_entries g.F.Field.ops (number_of l.matrix) l.row (below g.F.FileField.prime (items_of l.item-iterator.rest.now))) h es
    → EntersAll g.F.Field.ops l.initial.head l.initial.entries (list_entries g.F.Field.ops (number_of l.matrix) l.row (below g.F.FileField.prime (items_of l.part))) h es
