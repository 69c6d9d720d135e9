-- The operations of a field, and what is said with them: finite sums, powers, multiples of one, roots of one.
use Rattle.std.specs.Prelude.{◌≡◌, ℕ, suc, ◌-◌, ◌^◌, Bool, true, false}

pub record Operations (F : Type 0) : Type 0 where
  pub zero : F
  pub one : F
  pub add : F → F → F
  pub neg : F → F
  pub mul : F → F → F
  -- of every element but zero; what it gives at zero is of no account
  pub inverse : F → F
  -- equality is decided
  pub same : (x y : F) → Dec (x ≡ y)
  -- top generates the largest subgroup of 2-power order that we use, of the order 2 ^ adicity
  pub top : F
  pub adicity : ℕ

-- what a decision says
abbrev pub decided : {P : Type 0} → Dec P → Bool
decided (yes _) = true
decided (no _) = false

module _ {F : Type 0} (O : Operations F) where
  open O use {zero as 𝟘, one as 𝟙, add as ◌⊕◌, mul as ◌⊗◌, top, adicity}

  infixl 60 ◌⊕◌
  infixl 70 ◌⊗◌
  -- f 0 + f 1 + .. + f (n - 1)
  unfoldable pub sum : ℕ → (ℕ → F) → F
  sum ℕ.zero f = 𝟘
  sum (suc n) f = sum n f ⊕ f n

  -- x times itself, n times
  unfoldable pub power : F → ℕ → F
  power x ℕ.zero = 𝟙
  power x (suc n) = x ⊗ power x n

  -- 1 + 1 + .. + 1, n times
  unfoldable pub ones : ℕ → F
  ones n = sum n (λ _. 𝟙)

  -- the chosen root of one of the order 2 ^ e, for e up to the adicity
  unfoldable pub root_of_order : ℕ → F
  root_of_order e = power top (2 ^ (adicity - e))
