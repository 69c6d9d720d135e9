-- The field of 12289 elements.
use Rattle.std.specs.Prelude.{◌≡◌, ℕ}
use Rattle.std.proofs.Common.{lit<}
use Rattle.field.specs.Operations.{Operations}
use Rattle.modular.specs.declared.residue.Residue.{Residue}
use Rattle.modular.specs.Residue.{only, element, operations}

abbrev pub F12289 : Type 0
F12289 = Residue 12289

-- elements with one number are one element
pub only12289 : (x y : F12289) → x.value ≡ y.value → x ≡ y
only12289 = only

-- the element that a number stands for
abbrev pub element12289 : ℕ → F12289
element12289 = element 12289 (lit< tt)

abbrev pub ops12289 : Operations F12289
ops12289 = operations 12289 (lit< tt) 1331 12
