use Rattle.std.proofs.Common.{◌∙◌}
use Rattle.powers.proofs.Cycle.{product}
use Rattle.powers.proofs.Rules.{turn}
use Rattle.modular.proofs.f12289.F12289Prime12289.product.Goals as goal

pub returns-in-Some-Some : goal.returns-in-Some-Some
returns-in-Some-Some c =
    let logs = c.in-Some-Some in
    let first = logs.ensures.power ∙ c.value.ensures in
    let second = logs.ensures'.power ∙ c.value-2.ensures in
    c.power.ensures ∙ product 11 12288 12289 turn logs.i logs.j c.args.x.value c.args.y.value first second
