-- Powers, and the geometric series.
use Rattle.std.proofs.Common.{◌≡◌, ℕ, zero, suc, ◌+◌, ◌*◌, ◌/◌, ◌%◌, ◌<◌, sym, refl, ap, ◌∙◌, not-suc-le-zero, mul_comm, mul-zero, mul-suc}
use native.Mathlib.Nat.{div-add-mod}
use Rattle.field.specs.Operations.{Operations, sum, power}
use Rattle.field.specs.Laws.{Laws}
use Rattle.field.proofs.Powers as P
use Rattle.field.proofs.Ring.{one_mul, zero_mul}
use Rattle.field.proofs.Solve.{⓪, ①, ◌⊞◌, ◌⊠◌, ◌⊟◌, ◌≈◌, by_ring}

module _ {F : Type 0} {O : Operations F} (L : Laws O) where
  open O use {zero as 𝟘, one as 𝟙, add as ◌⊕◌, mul as ◌⊗◌, neg}

  infixl 60 ◌⊕◌
  infixl 70 ◌⊗◌
  abbrev Σ : ℕ → (ℕ → F) → F
  Σ = sum O

  infixr 80 ◌^^◌
  abbrev ◌^^◌ : F → ℕ → F
  ◌^^◌ = power O

  pub power_zero : (x : F) → x ^^ 0 ≡ 𝟙
  unfolding power
  power_zero x = refl

  pub power_suc : (x : F) (n : ℕ) → x ^^ suc n ≡ x ⊗ x ^^ n
  unfolding power
  power_suc x n = refl

  pub power_one : (x : F) → x ^^ 1 ≡ x
  power_one = P.power_one L.ring

  pub power_two : (x : F) → x ^^ 2 ≡ x ⊗ x
  unfolding power
  power_two x = ap (λ t. x ⊗ t) (L.ring.mul_one x)

  pub power_add : (x : F) (m n : ℕ) → x ^^ (m + n) ≡ x ^^ m ⊗ x ^^ n
  power_add = P.power_add L.ring

  pub power_mul : (x : F) (m n : ℕ) → x ^^ (m * n) ≡ (x ^^ m) ^^ n
  power_mul x m zero = rw mul-zero (power_zero x ∙ sym (power_zero (x ^^ m)))
  power_mul x m (suc n) =
      rw mul-suc
      (power_add x (m * n) m
      ∙ ap (λ t. t ⊗ x ^^ m) (power_mul x m n)
      ∙ L.ring.mul_comm ((x ^^ m) ^^ n) (x ^^ m)
      ∙ sym (power_suc (x ^^ m) n))

  pub power_comm : (x : F) (m n : ℕ) → (x ^^ m) ^^ n ≡ (x ^^ n) ^^ m
  power_comm x m n = sym (power_mul x m n) ∙ ap (λ t. x ^^ t) (mul_comm m n) ∙ power_mul x n m

  pub square_power : (x : F) (n : ℕ) → (x ⊗ x) ^^ n ≡ x ^^ (2 * n)
  square_power x n = ap (λ t. t ^^ n) (sym (power_two x)) ∙ sym (power_mul x 2 n)

  pub one_power : (n : ℕ) → 𝟙 ^^ n ≡ 𝟙
  unfolding power
  one_power zero = refl
  one_power (suc n) = ap (λ t. 𝟙 ⊗ t) (one_power n) ∙ L.ring.mul_one 𝟙

  pub zero_power : (n : ℕ) → 0 < n → 𝟘 ^^ n ≡ 𝟘
  unfolding power
  zero_power zero h = absurd (not-suc-le-zero h)
  zero_power (suc n) h = zero_mul L.ring (𝟘 ^^ n)

  pub mul_power : (x y : F) (n : ℕ) → (x ⊗ y) ^^ n ≡ x ^^ n ⊗ y ^^ n
  mul_power = P.mul_power L.ring

  -- powers of an inverse
  pub inverse_power : (x w : F) → x ⊗ w ≡ 𝟙 → (n : ℕ) → x ^^ n ⊗ w ^^ n ≡ 𝟙
  inverse_power x w inv n = sym (mul_power x w n) ∙ ap (λ t. t ^^ n) inv ∙ one_power n

  pub inverse_turn : (n : ℕ) (x w : F) → x ^^ n ≡ 𝟙 → x ⊗ w ≡ 𝟙 → w ^^ n ≡ 𝟙
  inverse_turn n x w h inv = sym (one_mul L.ring (w ^^ n)) ∙ ap (λ t. t ⊗ w ^^ n) (sym h) ∙ inverse_power x w inv n

  -- where x^n = 1: so for every power of x, and exponents count modulo n
  pub power_turn : (n : ℕ) (x : F) → x ^^ n ≡ 𝟙 → (j : ℕ) → (x ^^ j) ^^ n ≡ 𝟙
  power_turn n x h j = power_comm x j n ∙ ap (λ t. t ^^ j) h ∙ one_power j

  pub power_mod : (n : ℕ) (x : F) → x ^^ n ≡ 𝟙 → (j : ℕ) → x ^^ j ≡ x ^^ (j % n)
  power_mod n x h j =
      ap (λ t. x ^^ t) (sym (div-add-mod j n))
      ∙ power_add x (n * (j / n)) (j % n)
      ∙ ap (λ t. t ⊗ x ^^ (j % n)) (power_mul x n (j / n) ∙ ap (λ t. t ^^ (j / n)) h ∙ one_power (j / n))
      ∙ one_mul L.ring (x ^^ (j % n))

  -- (x - 1) (1 + x + .. + x^(n-1)) = x^n - 1
  pub geometric : (x : F) (n : ℕ) → (x ⊕ neg 𝟙) ⊗ Σ n (λ r. x ^^ r) ≡ x ^^ n ⊕ neg 𝟙
  unfolding sum power
  geometric x zero = by_ring L.ring 1 (λ x. (x ⊟ ①) ⊠ ⓪ ≈ ① ⊟ ①) refl x
  geometric x (suc n) =
      L.ring.mul_add (x ⊕ neg 𝟙) (Σ n (λ r. x ^^ r)) (x ^^ n)
      ∙ ap (λ t. t ⊕ (x ⊕ neg 𝟙) ⊗ x ^^ n) (geometric x n)
      ∙ by_ring L.ring 2 (λ x p. p ⊟ ① ⊞ (x ⊟ ①) ⊠ p ≈ x ⊠ p ⊟ ①) refl x (x ^^ n)
