use Rattle.constraints.proofs.Single.{opens_exactly_lem}
use Rattle.constraints.proofs.theorem.opens_exactly.Goals as goal

pub returns : goal.returns
returns c = opens_exactly_lem
