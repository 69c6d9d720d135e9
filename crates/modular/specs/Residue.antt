-- The numbers below p, with the operations of numbers modulo p.
use Rattle.std.specs.Prelude.{◌≡◌, ℕ, ◌+◌, ◌-◌, ◌*◌, ◌%◌, ◌^◌, ◌<◌}
use mathlib.Core.HLevel.{is_prop→PathP}
use Rattle.std.proofs.Common.{mod-lt}
use Rattle.std.proofs.Math.Bridge.{le_prop}
use Rattle.field.specs.Operations.{Operations}
use Rattle.modular.specs.Residues.{same_by}
use Rattle.modular.specs.declared.residue.Residue.{Residue}

-- elements with one number are one element
pub only : {p : ℕ} (x y : Residue p) → x.value ≡ y.value → x ≡ y
only {p} x y e = λ i. record { value = e i; below = is_prop→PathP (λ j. e j < p) (λ j. le_prop) x.below y.below i }

module _ (p : ℕ) (positive : 0 < p) where
  -- the element that a number stands for
  abbrev pub element : ℕ → Residue p
  element n = record { value = n % p; below = mod-lt n positive }

  abbrev pub operations : (top adicity : ℕ) → Operations (Residue p)
  operations top adicity = record {
    zero = element 0;
    one = element 1;
    add = λ x y. element (x.value + y.value);
    neg = λ x. element (p - x.value);
    mul = λ x y. element (x.value * y.value);
    inverse = λ x. element (x.value ^ (p - 2));
    same = same_by (λ (x : Residue p). x.value) only;
    top = element top;
    adicity = adicity;
  }
