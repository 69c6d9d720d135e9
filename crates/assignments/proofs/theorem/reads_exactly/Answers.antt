use Rattle.assignments.proofs.Stands.{reads_exactly_lem}
use Rattle.assignments.proofs.theorem.reads_exactly.Goals as goal

pub returns : goal.returns
returns c = reads_exactly_lem
