use Rattle.std.proofs.Common.{◌∙◌}
use Rattle.modular.proofs.ByLogs.{root_number}
use Rattle.modular.proofs.f12289.F12289Prime12289.root.Goals as goal

pub returns-then-e-le12 : goal.returns-then-e-le12
returns-then-e-le12 c = (c.if-e-le12.true, c.power.ensures ∙ root_number c.args.e c.if-e-le12.true)
