use Rattle.std.proofs.Common.{◌++◌, refl, ◌∙◌}
use Rattle.powers.proofs.Numbers.{numbers}
use Rattle.powers.proofs.Rules.{power_at}
use Rattle.powers.proofs.power.Code.Mir.{static-1, static-2}
use Rattle.powers.proofs.power.Goals as goal

pub returns : goal.returns
returns c = c.entry.ensures ∙ power_at (numbers static-1 ++ numbers static-2) refl refl c.args.i
