use Rattle.std.proofs.Common.{◌≡◌, ◌+◌, length}
use Rattle.writing.specs.Written.{Fills}
use Rattle.writing.specs.declared.writer.Writer.{Writer}
use Rattle.constraints.specs.Circuit.{item_bytes}
use Rattle.square_rows.specs.Terms.{terms_left}
use Rattle.square_file.specs.Terms.{items}
use Rattle.square_file.specs.Programs.{side_terms}
use Rattle.square_file.proofs.program.Program.put_list.Given as goal

-- as many are counted as are not left; what appends the rest of the items from here appends them all from the start
abbrev pub invariant-loop-t : goal.invariant-loop-t
invariant-loop-t g l =
    let O = g.F.Field.ops in
    let p = g.F.FileField.prime in
    let all = side_terms O l.self l.side in
    let rest = terms_left O l.t-iterator in
    (l.count + length rest ≡ length all) × ((end : Writer) → Fills l.w (item_bytes (items O p rest)) end → Fills l.initial.w (item_bytes (items O p all)) end)
