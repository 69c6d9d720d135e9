-- What is to be said of a model: its one quotient and its public polynomial, or the first row that fails.
use Rattle.std.specs.Prelude.{◌≡◌, ℕ, List}
use Rattle.field.specs.Operations.{Operations}
use Rattle.transform.specs.Polynomial.{coefficient}
use Rattle.sheet.specs.Model.{Model}
use Rattle.square.specs.Rows.{position, AllHold, FirstFailing}
use Rattle.square.specs.Polynomials.{Pair}

module _ {F : Type 0} (O : Operations F) (b : Model F) where
  open b use {shape, entries, values}

  abbrev c : (matrix row wire : ℕ) → F
  c = position O entries

  -- every row holds, and h is the quotient of the one pair that there is
  pub record QuotientIs (h : List F) : Type 0 where
    pub holds : AllHold O shape c (coefficient O values)
    pub z : List F
    pub pair : Pair O shape c values z h
    pub only : (z' h' : List F) → Pair O shape c values z' h' → (z' ≡ z) × (h' ≡ h)

  -- row i is the first that fails, and there is no pair
  pub record FailsAt (i : ℕ) : Type 0 where
    pub first : FirstFailing O shape c (coefficient O values) i
    pub none : (z h : List F) → ¬ Pair O shape c values z h
