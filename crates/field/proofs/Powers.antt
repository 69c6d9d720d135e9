-- Powers in any commutative ring, and a square root of -1 in any field that keeps the laws.
use Rattle.std.proofs.Common.{◌≡◌, ℕ, suc, ◌+◌, ◌-◌, ◌^◌, ◌≤◌, sym, refl, ap, ◌∙◌, arith}
use native.Mathlib.Nat as NatL
use Rattle.field.specs.Operations.{Operations, power}
use Rattle.field.specs.Laws.{Ring, Laws}
use Rattle.field.proofs.Ring as R
use Rattle.field.proofs.Solve.{◌⊠◌, ◌≈◌, by_ring}

pub twice_power : (s : ℕ) → 1 ≤ s → 2 ^ s ≡ 2 ^ (s - 1) + 2 ^ (s - 1)
twice_power s h = let e : s ≡ suc (s - 1) = omega arith in ap (λ k. 2 ^ k) e ∙ half (s - 1)
  where
    half : (k : ℕ) → 2 ^ suc k ≡ 2 ^ k + 2 ^ k
    half k = omega arith

module _ {F : Type 0} {O : Operations F} (ring : Ring O) where
  open O use {one, mul}

  pub power_one : (x : F) → power O x 1 ≡ x
  unfolding power
  power_one x = ring.mul_one x

  pub power_add : (x : F) (m n : ℕ) → power O x (m + n) ≡ mul (power O x m) (power O x n)
  unfolding power
  power_add x ℕ.zero n = ap (power O x) (NatL.zero-add n) ∙ sym (R.one_mul ring (power O x n))
  power_add x (suc m) n =
      ap (power O x) (NatL.suc-add m n) ∙ ap (mul x) (power_add x m n) ∙ sym (ring.mul_assoc x (power O x m) (power O x n))

  pub mul_power : (x y : F) (n : ℕ) → power O (mul x y) n ≡ mul (power O x n) (power O y n)
  unfolding power
  mul_power x y ℕ.zero = sym (ring.mul_one one)
  mul_power x y (suc n) =
      ap (mul (mul x y)) (mul_power x y n)
      ∙ by_ring ring 4 (λ x y p q. x ⊠ y ⊠ (p ⊠ q) ≈ x ⊠ p ⊠ (y ⊠ q)) refl x y (power O x n) (power O y n)

  pub power_twice : (x : F) (n : ℕ) → power O x (n + n) ≡ power O (mul x x) n
  power_twice x n = power_add x n n ∙ sym (mul_power x x n)

module _ {F : Type 0} {O : Operations F} (L : Laws O) where
  open O use {one, mul, neg, top, adicity}

  -- a square root of -1
  abbrev pub imaginary : F
  imaginary = power O top (2 ^ (adicity - 1 - 1))

  pub imaginary_square : mul imaginary imaginary ≡ neg one
  imaginary_square =
      let h : 1 ≤ adicity - 1 = omega (arith, L.adicity_two) in
      sym (power_add L.ring top (2 ^ (adicity - 1 - 1)) (2 ^ (adicity - 1 - 1))) ∙ ap (power O top) (sym (twice_power (adicity - 1) h)) ∙ L.top_power
