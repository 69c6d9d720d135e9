use Rattle.std.proofs.Common.{rules, tests}
use Rattle.std.proofs.lemmas.Iterator.{YieldsList-from_slice}
use Rattle.std.proofs.lemmas.Iterator.Search.{all_from_yields_List}
use Rattle.writing.specs.Plain.{is_plain}
use Rattle.value_file.proofs.bytes.are_plain.Goals as goal

pub returns : goal.returns
unfolding is_plain
returns g c =
    all_from_yields_List (is_plain g.F.Field.ops g.F.FileField.prime) _ _ _ c.all.ensures.ran (YieldsList-from_slice c.args.values.now cc) (λ x b q k. search (rules, tests))
