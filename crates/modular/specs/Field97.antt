-- The field of 97 elements.
use Rattle.std.specs.Prelude.{◌≡◌, ℕ}
use Rattle.std.proofs.Common.{lit<}
use Rattle.field.specs.Operations.{Operations}
use Rattle.modular.specs.declared.residue.Residue.{Residue}
use Rattle.modular.specs.Residue.{only, element, operations}

abbrev pub F97 : Type 0
F97 = Residue 97

-- elements with one number are one element
pub only97 : (x y : F97) → x.value ≡ y.value → x ≡ y
only97 = only

-- the element that a number stands for
abbrev pub element97 : ℕ → F97
element97 = element 97 (lit< tt)

abbrev pub ops97 : Operations F97
ops97 = operations 97 (lit< tt) 28 5
