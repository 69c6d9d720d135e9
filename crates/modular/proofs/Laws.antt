-- The residues modulo any p: their products are those of the numbers.
use Rattle.std.specs.Prelude.{ℕ, ◌<◌, refl}
use Rattle.modular.specs.declared.residue.Residue.{Residue}
use Rattle.modular.specs.Residues.{Residues}
use Rattle.modular.specs.Residue.{operations}
use Rattle.modular.specs.Arithmetic.{Arithmetic, residues_by}

pub residues : {p top adicity : ℕ} (positive : 0 < p) → Arithmetic p top adicity → Residues p (λ (x : Residue p). x.value) (operations p positive top adicity)
residues positive a = residues_by positive a (λ x y. refl)
