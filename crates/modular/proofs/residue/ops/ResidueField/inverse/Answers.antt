use Rattle.std.proofs.Common.{ap, ◌∙◌}
use Rattle.modular.specs.Residue.{element}
use Rattle.modular.proofs.Roots.{reduced, nonzero}
use Rattle.modular.proofs.residue.ops.ResidueField.inverse.Goals as goal

pub returns : goal.returns
returns g c =
    let told = c.in_ok-inverse.ensures in
    (nonzero _ c.args.self told.0, c.new.ensures ∙ ap (element g.row.P _) told.1 ∙ reduced _ _)
