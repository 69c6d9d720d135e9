use Rattle.loading.proofs.Entered.{enters_both}
use Rattle.loading.proofs.rows.enter_row.Goals as goal

pub returns : goal.returns
returns g c =
    let O = g.F.Field.ops in
    enters_both O _ _ _ _ _ _ _ _ c.enter_list.ensures (enters_both O _ _ _ _ _ _ _ _ c.enter_list-2.ensures c.enter_list-3.ensures)
