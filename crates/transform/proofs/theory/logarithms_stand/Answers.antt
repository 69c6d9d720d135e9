use Rattle.transform.proofs.Logarithms.{logarithms}
use Rattle.transform.proofs.theory.logarithms_stand.Goals as goal

pub returns : goal.returns
returns c = logarithms
