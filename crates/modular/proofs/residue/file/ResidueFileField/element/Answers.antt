use Rattle.std.proofs.Common.{ap, rules}
use Rattle.modular.specs.declared.residue.Residue.{Residue}
use Rattle.modular.specs.Modular.{is_ones}
use Rattle.modular.proofs.Laws.{residues}
use Rattle.modular.proofs.residue.file.ResidueFileField.element.Goals as goal

pub returns-then-v : goal.returns-then-v
returns-then-v g c =
    (c.if-v.true, is_ones (residues _ (search rules)) c.new.result c.args.v (ap (λ (x : Residue g.row.P). x.value) c.new.ensures))
