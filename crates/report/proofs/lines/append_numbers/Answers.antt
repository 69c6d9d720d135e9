use Rattle.std.proofs.Common.{arith}
use Rattle.report.specs.Text.{Appended}
use Rattle.report.proofs.Texts.{append_put, append_left, numbers_lined}
use Rattle.report.proofs.lines.append_numbers.Goals as goal

pub returns-clause-text : goal.returns-clause-text
returns-clause-text c =
    let word : Appended c.args.out.now c.args.word.now c.put.new.self = append_put (omega arith) c.put.ensures in
    numbers_lined c.args.word.now c.args.a c.args.b word c.append_spaced.ensures.text c.append_spaced-2.ensures.text (append_put (omega (arith, append_left word)) c.put-2.ensures)
