use Rattle.std.proofs.Common.{rules, tests}
use Rattle.std.proofs.lemmas.Iterator.{YieldsList-from_slice}
use Rattle.std.proofs.lemmas.Iterator.Search.{all_from_yields_List}
use Rattle.sheet.specs.Rules.{inside}
use Rattle.sheet.specs.Outcomes.{shape_of}
use Rattle.square.proofs.rows.are_inside.Goals as goal

pub returns : goal.returns
returns g c =
    all_from_yields_List (λ e. inside (shape_of c.args.head.now) e.matrix e.row e.wire) _ _ _ c.all.ensures.ran
    (YieldsList-from_slice c.args.used.now cc) (λ x b q k. search (rules, tests))
