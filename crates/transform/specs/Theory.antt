-- What is proved of polynomials over a subgroup of 2-power order, for every field.
use Rattle.std.specs.Prelude.{◌≡◌, ℕ, ◌+◌, ◌-◌, ◌*◌, ◌%◌, ◌^◌, ◌<◌, ◌≤◌, ◌≢◌, ◌↔◌, List, length}
use Rattle.field.specs.Operations.{Operations, sum, power, ones, root_of_order}
use Rattle.transform.specs.Polynomial.{table, coefficient, value_at, product_at, Root, Takes, Quotient}

module _ {F : Type 0} (O : Operations F) where
  open O use {zero as 𝟘, one as 𝟙, add as ◌⊕◌, mul as ◌⊗◌, inverse, adicity}

  infixl 60 ◌⊕◌
  infixl 70 ◌⊗◌
  -- a field has a root of each order 2 ^ e up to its adicity
  abbrev pub HasRoots : Type 0
  HasRoots = (e : ℕ) → e ≤ adicity → Root O e (root_of_order O e)

  -- and each chosen root is a power of those of larger orders
  abbrev pub RootsNest : Type 0
  RootsNest = (a d : ℕ) → a + d ≤ adicity → power O (root_of_order O (a + d)) (2 ^ d) ≡ root_of_order O a

  -- the powers of ω^t, over one turn, cancel out unless ω^t is one; and a power of two is not zero in the field
  pub record Orthogonal (e : ℕ) (ω : F) : Type 0 where
    pub apart : (t : ℕ) → 0 < t → t < 2 ^ e → power O ω t ≢ 𝟙
    pub cancels : (t : ℕ) → 0 < t → t < 2 ^ e → sum O (2 ^ e) (λ r. power O (power O ω t) r) ≡ 𝟘
    pub turns : power O ω (2 ^ e) ≡ 𝟙
    pub count : ones O (2 ^ e) ≢ 𝟘

  -- any n values at the powers of ω belong to exactly one list of n coefficients
  pub record Interpolates (e : ℕ) (ω : F) : Type 0 where
    pub exists : (y : ℕ → F) → (c : List F) × Takes O (2 ^ e) ω y c
    pub once : (y : ℕ → F) (c d : List F) → Takes O (2 ^ e) ω y c → Takes O (2 ^ e) ω y d → c ≡ d

  -- u² - w is a multiple of X^n - 1 exactly where u² and w agree at the n points, and then the quotient is the upper part of u²
  pub record Divides (e : ℕ) (ω : F) (u w : List F) : Type 0 where
    pub exactly : ((h : List F) × Quotient O (2 ^ e) u w h)
        ↔ ((r : ℕ) → r < 2 ^ e → value_at O u (power O ω r) ⊗ value_at O u (power O ω r) ≡ value_at O w (power O ω r))
    pub upper : (h : List F) → Quotient O (2 ^ e) u w h → h ≡ table (2 ^ e - 1) (λ j. product_at O u u (2 ^ e + j))

  -- values that vanish off the multiples of the stride: the coefficient at j is k/n times the one at j mod k over the k multiples
  abbrev pub Spreads : (d a : ℕ) (ω : F) → Type 0
  Spreads d a ω = (y : ℕ → F) (c p : List F)
      → ((r : ℕ) → r < 2 ^ a * 2 ^ d → r % 2 ^ d ≢ 0 → y r ≡ 𝟘)
      → Takes O (2 ^ (a + d)) ω y c
      → Takes O (2 ^ a) (power O ω (2 ^ d)) (λ t. y (t * 2 ^ d)) p
      → (j : ℕ) → j < 2 ^ (a + d) → coefficient O c j ≡ ones O (2 ^ a) ⊗ inverse (ones O (2 ^ (a + d))) ⊗ coefficient O p (j % 2 ^ a)

  -- the whole theory, at every root of one of 2-power order
  pub record Theory : Type 0 where
    pub roots : HasRoots
    pub nest : RootsNest
    pub orthogonal : (e : ℕ) (ω : F) → Root O e ω → Orthogonal e ω
    pub interpolates : (e : ℕ) (ω : F) → Root O e ω → Interpolates e ω
    pub divides : (e : ℕ) (ω : F) → Root O e ω → (u w : List F) → length u ≡ 2 ^ e → length w ≡ 2 ^ e → Divides e ω u w
    pub spreads : (d a : ℕ) (ω : F) → Root O (a + d) ω → Spreads d a ω
