-- Arithmetic modulo p, on any type whose elements are the numbers below p.
use Rattle.std.specs.Prelude.{◌≡◌, ℕ, ◌+◌, ◌-◌, ◌*◌, ◌%◌, ◌^◌, ◌<◌, ◌≤◌}
use Rattle.std.proofs.Common.{ap}
use Rattle.std.proofs.Math.Decide.{ℕ_discrete}
use Rattle.field.specs.Operations.{Operations}

-- elements are equal as their numbers are, where no two have one number
abbrev pub same_by : {R : Type 0} (value : R → ℕ) → ((x y : R) → value x ≡ value y → x ≡ y) → (x y : R) → Dec (x ≡ y)
same_by value only x y = elim (ℕ_discrete (value x) (value y)) [ yes e ↦ yes (only x y e) | no d ↦ no (λ e. d (ap value e)) ]

-- the elements are the numbers below p, the operations those of numbers modulo p, and top and adicity are a 2-power root of one with its size
pub record Residues (p : ℕ) {R : Type 0} (value : R → ℕ) (O : Operations R) : Type 0 where
  pub large : 2 < p
  pub below : (x : R) → value x < p
  pub only : (x y : R) → value x ≡ value y → x ≡ y
  pub zero_is : value O.zero ≡ 0
  pub one_is : value O.one ≡ 1
  pub add_is : (x y : R) → value (O.add x y) ≡ (value x + value y) % p
  pub neg_is : (x : R) → value (O.neg x) ≡ (p - value x) % p
  pub mul_is : (x y : R) → value (O.mul x y) ≡ (value x * value y) % p
  pub inverse_is : (x : R) → ¬ (value x ≡ 0) → (value x * value (O.inverse x)) % p ≡ 1
  pub adicity_two : 2 ≤ O.adicity
  pub top_power : (value O.top ^ (2 ^ (O.adicity - 1))) % p ≡ p - 1
  pub top_no_square : (x : R) → ¬ ((value x * value x) % p ≡ value O.top)
