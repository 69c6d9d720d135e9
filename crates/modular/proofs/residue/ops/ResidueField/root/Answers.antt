use Rattle.std.proofs.Common.{ap, ◌∙◌, rules}
use Rattle.modular.specs.Residue.{element}
use Rattle.modular.proofs.Roots.{reduced_root}
use Rattle.modular.proofs.residue.ops.ResidueField.root.Goals as goal

pub returns : goal.returns
returns g c =
    let told = c.in_ok-root.ensures in
    (told.0, c.new.ensures ∙ ap (element g.row.P _) told.1 ∙ reduced_root _ (search rules) c.args.e)
