use Rattle.std.proofs.Common.{rules}
use Rattle.modular.specs.Modular.{is_number}
use Rattle.modular.proofs.Laws.{residues}
use Rattle.modular.proofs.residue.file.ResidueFileField.number.Goals as goal

pub returns : goal.returns
returns g c = (c.args.self.below, is_number (residues _ (search rules)) c.args.self)
