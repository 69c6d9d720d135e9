use Rattle.std.proofs.Common.{arith}
use Rattle.report.specs.Text.{Appended}
use Rattle.report.proofs.Texts.{append_put, append_left, elements_lined}
use Rattle.report.proofs.lines.append_line.Goals as goal

pub returns-clause-text : goal.returns-clause-text
returns-clause-text g c =
    let word : Appended c.args.out.now c.args.word.now c.put.new.self = append_put (omega (arith, c.requires)) c.put.ensures in
    elements_lined _ word c.append_elements.ensures.text (append_put (omega (arith, append_left word, c.append_elements.ensures.short, c.requires)) c.put-2.ensures)
