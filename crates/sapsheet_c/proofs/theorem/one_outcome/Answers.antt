use Rattle.sapsheet_c.proofs.Single.{one_outcome_lem}
use Rattle.sapsheet_c.proofs.theorem.one_outcome.Goals as goal

pub returns : goal.returns
returns c = one_outcome_lem
