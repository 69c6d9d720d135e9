use Rattle.transform.proofs.Whole.{theory}
use Rattle.transform.proofs.theory.theory_stands.Goals as goal

pub returns : goal.returns
returns g c = theory g.met.F.Field.laws
