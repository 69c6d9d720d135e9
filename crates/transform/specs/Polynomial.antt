-- Polynomials as lists of coefficients, lowest first. Two are equal when their coefficients are; a coefficient past the end is zero.
use Rattle.std.specs.Prelude.{◌≡◌, ℕ, zero, suc, ◌-◌, ◌^◌, ◌<◌, List, [], ◌∷◌, ◌++◌, length, replicate, slice_index_or}
use Rattle.field.specs.Operations.{Operations, sum, power}

-- f 0, f 1, .., f (n - 1)
unfoldable pub table : {X : Type 0} → ℕ → (ℕ → X) → List X
table zero f = []
table (suc n) f = f 0 ∷ table n (λ i. f (suc i))

module _ {F : Type 0} (O : Operations F) where
  open O use {zero as 𝟘, one as 𝟙, add as ◌⊕◌, mul as ◌⊗◌, neg}

  infixl 60 ◌⊕◌
  infixl 70 ◌⊗◌
  abbrev pub coefficient : List F → ℕ → F
  coefficient c i = slice_index_or c i 𝟘

  -- c_0 + c_1 x + c_2 x² + ..
  unfoldable pub value_at : List F → F → F
  value_at c x = sum O (length c) (λ i. coefficient c i ⊗ power O x i)

  -- the coefficient at e of the product u v: the sum over i + j = e of u_i v_j
  unfoldable pub product_at : List F → List F → ℕ → F
  product_at u v e = sum O (suc e) (λ i. coefficient u i ⊗ coefficient v (e - i))

  -- X^n - 1, for n at least 1
  abbrev pub vanishing : ℕ → List F
  vanishing n = neg 𝟙 ∷ (replicate (n - 1) 𝟘 ++ (𝟙 ∷ []))

module _ {F : Type 0} (O : Operations F) where
  open O use {zero as 𝟘, one as 𝟙, add as ◌⊕◌, mul as ◌⊗◌, neg}

  infixl 60 ◌⊕◌
  infixl 70 ◌⊗◌
  -- the order of ω is 2 ^ e: ω is 1 where e is 0, else its 2^(e-1)-th power is -1
  abbrev pub Root : ℕ → F → Type 0
  Root zero ω = ω ≡ 𝟙
  Root (suc e) ω = power O ω (2 ^ e) ≡ neg 𝟙

  -- c has n coefficients, and its value at ω^r is y r for each r below n
  pub record Takes (n : ℕ) (ω : F) (y : ℕ → F) (c : List F) : Type 0 where
    pub size : length c ≡ n
    pub values : (r : ℕ) → r < n → value_at O c (power O ω r) ≡ y r

  -- h has n - 1 coefficients, and u² - w = h (X^n - 1)
  pub record Quotient (n : ℕ) (u w h : List F) : Type 0 where
    pub size : length h ≡ n - 1
    pub equal : (e : ℕ) → product_at O u u e ⊕ neg (coefficient O w e) ≡ product_at O h (vanishing O n) e
