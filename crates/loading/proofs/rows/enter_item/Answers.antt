use Rattle.std.proofs.Common.{le-ltb, lt-ltb}
use Rattle.loading.proofs.Entered.{enters_none, enters_one}
use Rattle.loading.proofs.rows.enter_item.Goals as goal

pub returns-in-Some : goal.returns-in-Some
returns-in-Some g c =
    let e = c.in-Some.ensures in
    rw (lt-ltb c.args.item.coefficient g.F.FileField.prime e.0)
    (enters_one g.F.Field.ops _ _ _ _ _ _ _ _ _ (rw (e.1, c.number.ensures) at c.enter.ensures))

pub returns-in_default : goal.returns-in_default
returns-in_default g c = rw (le-ltb c.args.item.coefficient g.F.FileField.prime c.in_default.ensures) (enters_none g.F.Field.ops _ _)
