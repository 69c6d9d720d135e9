use Rattle.std.proofs.Common.{◌≡◌, ◌*◌, ◌≤◌, true, length}
use Rattle.square_file.specs.SquareFile.{plain_rows}
use Rattle.square_file.specs.Programs.{shape, entries}
use Rattle.square_file.proofs.RowLists.{first_rows}
use Rattle.square_file.proofs.program.Program.rows_size.Given as goal

abbrev pub invariant-loop-r : goal.invariant-loop-r
invariant-loop-r g l =
    let O = g.F.Field.ops in
    let p = g.F.FileField.prime in
    (plain_rows O p (shape l.self) (entries O l.self) l.r ≡ true) × (l.size ≡ length (first_rows O p (shape l.self) (entries O l.self) l.r)) × (l.size ≤ 110604 * l.r)
