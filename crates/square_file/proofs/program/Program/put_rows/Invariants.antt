use Rattle.writing.specs.Written.{Fills}
use Rattle.square_file.specs.Programs.{shape, entries}
use Rattle.square_file.proofs.RowLists.{first_rows}
use Rattle.square_file.proofs.program.Program.put_rows.Given as goal

abbrev pub invariant-loop-r : goal.invariant-loop-r
invariant-loop-r g l = let O = g.F.Field.ops in Fills l.initial.w (first_rows O g.F.FileField.prime (shape l.self) (entries O l.self) l.r) l.w
