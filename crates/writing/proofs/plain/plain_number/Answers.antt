use Rattle.writing.proofs.Numbered.{told_number}
use Rattle.writing.proofs.plain.plain_number.Goals as goal

pub returns : goal.returns
returns g c = told_number g.F.Field.ops g.F.FileField.prime c.args.x c.prime.ensures.distinct c.number.result c.number.ensures
