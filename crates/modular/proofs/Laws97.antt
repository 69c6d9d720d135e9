-- The field of 97 elements keeps the laws.
use Rattle.std.proofs.Common.{lit<}
use Rattle.field.specs.Laws.{Laws}
use Rattle.modular.specs.Residues.{Residues}
use Rattle.modular.specs.Field97.{F97, ops97}
use Rattle.modular.specs.Laws97.{arithmetic97}
use Rattle.modular.specs.Modular.{laws_of}
use Rattle.modular.proofs.Laws.{residues}

pub residues97 : Residues 97 (λ (x : F97). x.value) ops97
residues97 = residues (lit< tt) arithmetic97

pub laws97 : Laws ops97
laws97 = laws_of residues97
