use Rattle.std.proofs.Common.{rules}
use Rattle.modular.specs.Modular.{is_number}
use Rattle.modular.proofs.Laws.{residues}
use Rattle.modular.proofs.residue.file.ResidueFileField.coordinate.Goals as goal

pub returns-in-0-clause-number : goal.returns-in-0-clause-number
returns-in-0-clause-number g c = λ _. is_number (residues _ (search rules)) c.args.self
