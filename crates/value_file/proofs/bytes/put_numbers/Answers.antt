use Rattle.writing.proofs.Writers.{fills_same}
use Rattle.value_file.proofs.Parts.{numbers_same}
use Rattle.value_file.proofs.bytes.put_numbers.Goals as goal

pub returns : goal.returns
returns g c = fills_same c.args.w.now c.put_numbers.new.self _ _ (numbers_same g.F.Field.ops g.F.FileField.prime c.args.values.now) c.put_numbers.ensures.0
