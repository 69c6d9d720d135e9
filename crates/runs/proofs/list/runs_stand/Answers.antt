use Rattle.runs.proofs.Stands.{run_stands}
use Rattle.runs.proofs.list.runs_stand.Goals as goal

pub returns : goal.returns
returns g c = λ s t calls answers b. run_stands g.F.Field.ops calls answers s t b
