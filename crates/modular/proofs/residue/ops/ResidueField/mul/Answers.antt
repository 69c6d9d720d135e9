use Rattle.std.proofs.Common.{ap, ◌∙◌}
use Rattle.modular.specs.Residue.{element}
use Rattle.modular.proofs.Roots.{reduced}
use Rattle.modular.proofs.residue.ops.ResidueField.mul.Goals as goal

pub returns : goal.returns
returns g c = c.new.ensures ∙ ap (element g.row.P _) c.product.ensures ∙ reduced _ _
