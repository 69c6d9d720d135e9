-- What is asked of the numbers below p, and of one of them, for a field with a subgroup of 2-power order.
use Rattle.std.specs.Prelude.{◌≡◌, ℕ, ◌-◌, ◌*◌, ◌%◌, ◌^◌, ◌<◌, ◌≤◌, refl}
use Rattle.std.proofs.Common.{arith}
use Rattle.std.proofs.Math.Nat.{mod-eq_of_lt}
use Rattle.modular.specs.Residues.{Residues}
use Rattle.modular.specs.declared.residue.Residue.{Residue}
use Rattle.modular.specs.Residue.{only, operations}

-- every number but 0 has an inverse, and top is no square, but its 2^(adicity - 1)-th power is -1
pub record Arithmetic (p top adicity : ℕ) : Type 0 where
  pub large : 2 < p
  pub inverse : (n : ℕ) → n < p → ¬ (n ≡ 0) → (n * (n ^ (p - 2) % p)) % p ≡ 1
  pub adicity_two : 2 ≤ adicity
  pub top_power : ((top % p) ^ (2 ^ (adicity - 1))) % p ≡ p - 1
  pub top_no_square : (n : ℕ) → n < p → ¬ ((n * n) % p ≡ top % p)

-- the residues modulo p, from products that are those of the numbers
module _ {p top adicity : ℕ} (positive : 0 < p) (a : Arithmetic p top adicity) where
  pub residues_by : ((x y : Residue p) → ((operations p positive top adicity).mul x y).value ≡ (x.value * y.value) % p) → Residues p (λ (x : Residue p). x.value) (operations p positive top adicity)
  residues_by mul_is = record {
    large = a.large;
    below = λ x. x.below;
    only = only;
    zero_is = mod-eq_of_lt (omega (arith, a.large));
    one_is = mod-eq_of_lt (omega (arith, a.large));
    add_is = λ x y. refl;
    neg_is = λ x. refl;
    mul_is = mul_is;
    inverse_is = λ x d. a.inverse x.value x.below d;
    adicity_two = a.adicity_two;
    top_power = a.top_power;
    top_no_square = λ x e. a.top_no_square x.value x.below e;
  }
