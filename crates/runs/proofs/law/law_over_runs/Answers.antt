use Rattle.runs.proofs.Whole.{law}
use Rattle.runs.proofs.law.law_over_runs.Goals as goal

pub returns : goal.returns
returns g c = law g.F.Field.ops
