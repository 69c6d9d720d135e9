use Rattle.std.proofs.Common.{rules}
use Rattle.modular.specs.Modular.{ones_vanish, ones_distinct}
use Rattle.modular.proofs.Laws.{residues}
use Rattle.modular.proofs.residue.file.ResidueFileField.prime.Goals as goal

pub returns-clause-vanishes : goal.returns-clause-vanishes
returns-clause-vanishes g c = ones_vanish (residues _ (search rules))

pub returns-clause-distinct : goal.returns-clause-distinct
returns-clause-distinct g c = ones_distinct (residues _ (search rules))
