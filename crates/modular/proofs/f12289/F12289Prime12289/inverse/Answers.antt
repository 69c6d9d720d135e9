use Rattle.std.proofs.Common.{subst, ◌∙◌}
use Rattle.powers.specs.Logarithm.{Logarithm}
use Rattle.powers.proofs.Rules.{never_zero}
use Rattle.modular.proofs.ByLogs.{inverse_number}
use Rattle.modular.proofs.f12289.F12289Prime12289.inverse.Goals as goal

pub returns : goal.returns
returns c =
    let i = c.in_ok-log.field-0 in
    let found = subst (λ n. Logarithm n i) c.value.ensures c.in_ok-log.ensures in
    (λ e. never_zero i (found.power ∙ e), c.power.ensures ∙ inverse_number c.args.x.value i found)
