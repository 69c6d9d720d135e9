use Rattle.report.proofs.Texts.{append_both}
use Rattle.report.proofs.survey.append_polynomials.Goals as goal

pub returns : goal.returns
returns g c = append_both c.append_line.ensures.text c.append_line-2.ensures.text
