-- The product rows of a sheet: sums of coefficients times values, and which rows hold.
use Rattle.std.specs.Prelude.{◌≡◌, ℕ, zero, suc, ◌+◌, ◌<◌, Bool, cond, List, [], ◌∷◌, Some, None, Option}
use Rattle.std.proofs.Math.Decide.{ℕ_discrete}
use Rattle.field.specs.Operations.{Operations, sum, decided}
use Rattle.sheet.specs.Shape.{Shape}
use Rattle.sheet.specs.declared.entry.Entry.{Entry}

infix 10 when◌then◌else◌
abbrev pub when◌then◌else◌ : {P X : Type 0} → Dec P → X → X → X
when◌then◌else◌ (yes _) x y = x
when◌then◌else◌ (no _) x y = y

-- the first of i, i + 1, .., i + count - 1 that fails the test
unfoldable pub first_failure : (ℕ → Bool) → (count i : ℕ) → Option ℕ
first_failure test zero i = None
first_failure test (suc count) i = cond (test i) (first_failure test count (i + 1)) (Some i)

module _ {F : Type 0} (O : Operations F) where
  open O use {zero as 𝟘, add as ◌⊕◌, mul as ◌⊗◌, same}

  infixl 60 ◌⊕◌
  infixl 70 ◌⊗◌
  -- x where i is j, else 0
  unfoldable pub only : ℕ → ℕ → F → F
  only i j x = when ℕ_discrete i j then x else 𝟘

  -- the coefficient of a position: the sum over the entries there
  unfoldable pub position : List (Entry F) → (matrix row wire : ℕ) → F
  position [] matrix row wire = 𝟘
  position (e ∷ es) matrix row wire =
      only e.matrix matrix (only e.row row (only e.wire wire e.coefficient)) ⊕ position es matrix row wire

  -- c_0 z_0 + .. + c_(m-1) z_(m-1)
  unfoldable pub dot : ℕ → (ℕ → F) → (ℕ → F) → F
  dot m c z = sum O m (λ w. c w ⊗ z w)

-- c gives the coefficient of each position, z the value of each wire; matrices A, B and C are 0, 1 and 2
module _ {F : Type 0} (O : Operations F) (S : Shape) (c : (matrix row wire : ℕ) → F) (z : ℕ → F) where
  open O use {mul as ◌⊗◌, same}

  infixl 70 ◌⊗◌
  abbrev pub row_sum : (matrix row : ℕ) → F
  row_sum matrix row = dot O S.m (c matrix row) z

  -- A-sum times B-sum is C-sum
  abbrev pub Holds : ℕ → Type 0
  Holds i = row_sum 0 i ⊗ row_sum 1 i ≡ row_sum 2 i

  abbrev pub AllHold : Type 0
  AllHold = (i : ℕ) → i < S.N → Holds i

  -- row i fails, and those before it hold
  pub record FirstFailing (i : ℕ) : Type 0 where
    pub row : i < S.N
    pub fails : ¬ Holds i
    pub before : (d : ℕ) → d < i → Holds d

  -- the row that the code reports: the first that does not hold, if there is one
  unfoldable pub failing_row : Option ℕ
  failing_row = first_failure (λ i. decided (same (row_sum 0 i ⊗ row_sum 1 i) (row_sum 2 i))) S.N 0
