-- The field of 12289 elements keeps the laws.
use Rattle.std.proofs.Common.{lit<}
use Rattle.field.specs.Laws.{Laws}
use Rattle.modular.specs.Residues.{Residues}
use Rattle.modular.specs.Field12289.{F12289, ops12289}
use Rattle.modular.specs.Laws12289.{arithmetic12289}
use Rattle.modular.specs.Modular.{laws_of}
use Rattle.modular.proofs.Laws.{residues}

pub residues12289 : Residues 12289 (λ (x : F12289). x.value) ops12289
residues12289 = residues (lit< tt) arithmetic12289

pub laws12289 : Laws ops12289
laws12289 = laws_of residues12289
