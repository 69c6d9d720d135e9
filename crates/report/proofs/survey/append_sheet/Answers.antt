use Rattle.report.proofs.Texts.{append_both}
use Rattle.report.proofs.survey.append_sheet.Goals as goal

pub returns-clause-text : goal.returns-clause-text
returns-clause-text c = append_both c.append_numbers.ensures.text (simp (c.n.ensures.is, c.k.ensures.is) at c.append_numbers-2.ensures.text)
