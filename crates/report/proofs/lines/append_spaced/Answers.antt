use Rattle.std.proofs.Common.{[], ◌∷◌, arith}
use Rattle.report.specs.Text.{Appended}
use Rattle.report.proofs.Texts.{twenty_digits, append_put, append_left}
use Rattle.report.proofs.lines.append_spaced.Goals as goal

pub append_number-requires : goal.append_number-requires
append_number-requires c =
    let space : Appended c.args.out.now (32 ∷ []) c.put.new.self = append_put (omega arith) c.put.ensures in
    omega (arith, twenty_digits c.args.v (omega arith), append_left space)

pub returns-clause-short : goal.returns-clause-short
returns-clause-short c =
    let space : Appended c.args.out.now (32 ∷ []) c.put.new.self = append_put (omega arith) c.put.ensures in
    omega (arith, twenty_digits c.args.v (omega arith), append_left space, append_left c.append_number.ensures)
