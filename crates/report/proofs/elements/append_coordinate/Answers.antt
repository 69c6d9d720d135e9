use Rattle.std.proofs.Common.{[], ◌∷◌, arith}
use Rattle.report.specs.Text.{Appended}
use Rattle.report.proofs.Texts.{append_put, append_left}
use Rattle.report.proofs.Coordinates.{five_digits}
use Rattle.report.proofs.elements.append_coordinate.Goals as goal

pub append_number-requires : goal.append_number-requires
append_number-requires c = omega (arith, five_digits c.args.c c.requires.1)

pub returns-then-i-eq0-clause-short : goal.returns-then-i-eq0-clause-short
returns-then-i-eq0-clause-short c = omega (arith, five_digits c.args.c c.requires.1, append_left c.append_number.ensures)

pub append_number-requires-2 : goal.append_number-requires-2
append_number-requires-2 c =
    let comma : Appended c.args.out.now (44 ∷ []) c.put.new.self = append_put (omega arith) c.put.ensures in
    omega (arith, five_digits c.args.c c.requires.1, append_left comma)

pub returns-clause-short : goal.returns-clause-short
returns-clause-short c =
    let comma : Appended c.args.out.now (44 ∷ []) c.put.new.self = append_put (omega arith) c.put.ensures in
    omega (arith, five_digits c.args.c c.requires.1, append_left comma, append_left c.append_number-2.ensures)
