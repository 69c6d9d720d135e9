-- Coefficients as functions on all of ℕ: values, interpolation, products. A polynomial is a function that is zero from some bound on.
use Rattle.std.proofs.Common.{◌≡◌, ℕ, zero, suc, ◌-◌, ◌*◌, ◌≤◌}
use Rattle.field.specs.Operations.{Operations, sum, power}

module _ {F : Type 0} (O : Operations F) where
  open O use {zero as 𝟘, one as 𝟙, add as ◌⊕◌, mul as ◌⊗◌, neg}

  infixl 60 ◌⊕◌
  infixl 70 ◌⊗◌
  -- the degree is below n
  abbrev pub Below : ℕ → (ℕ → F) → Type 0
  Below n c = (i : ℕ) → n ≤ i → c i ≡ 𝟘

  -- c 0 + c 1 x + .. + c (n - 1) x^(n-1)
  unfoldable pub eval : ℕ → (ℕ → F) → F → F
  eval n c x = sum O n (λ i. c i ⊗ power O x i)

  -- the coefficient at j: (1/n) (y 0 + y 1 w^j + .. + y (n-1) w^((n-1) j)), with w = 1/ω and s = 1/n
  unfoldable pub interp : ℕ → F → F → (ℕ → F) → ℕ → F
  interp n w s y j = s ⊗ sum O n (λ r. y r ⊗ power O w (r * j))

  -- the coefficient at e of the product: the sum over i + j = e of u i v j
  unfoldable pub conv : (ℕ → F) → (ℕ → F) → ℕ → F
  conv u v e = sum O (suc e) (λ i. u i ⊗ v (e - i))

  -- X^k
  unfoldable pub mono : ℕ → ℕ → F
  mono zero zero = 𝟙
  mono zero (suc i) = 𝟘
  mono (suc k) zero = 𝟘
  mono (suc k) (suc i) = mono k i

  -- X^n - 1
  abbrev pub vanish : ℕ → ℕ → F
  vanish n i = mono n i ⊕ neg (mono 0 i)

  -- u² - w = h (X^n - 1)
  abbrev pub Multiple : ℕ → (ℕ → F) → (ℕ → F) → (ℕ → F) → Type 0
  Multiple n u w h = (e : ℕ) → conv u u e ⊕ neg (w e) ≡ conv h (vanish n) e
