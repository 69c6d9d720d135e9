-- Linear combinations of the square program's wires, and their terms.
use Rattle.std.specs.Prelude.{◌≡◌, ℕ, ◌<◌, ◌≤◌, Option, MatchOption}
use Rattle.field.specs.Operations.{Operations}
use Rattle.sheet.specs.Shape.{Shape}
use Rattle.square.specs.Rows.{only}
use Rattle.square.specs.Program.{replaced}
use Rattle.square_rows.specs.declared.term.Term.{Term}
use Rattle.square_rows.specs.declared.combination.Combination.{Combination}

module _ {F : Type 0} (O : Operations F) where
  open O use {zero as 𝟘, add as ◌⊕◌, mul as ◌⊗◌}

  infixl 60 ◌⊕◌
  infixl 70 ◌⊗◌
  abbrev pub term : ℕ → F → Term F
  term w x = record { wire = w; coefficient = x }

  -- one that adds nothing
  abbrev pub no_term : Term F
  no_term = term 0 𝟘

  -- a term and the entries of a product row, those of A times a, of B times b and of C times c
  abbrev pub of_row : Term F → ℕ → (a b c : F) → Combination F
  of_row t row a b c = record { first = t; second = no_term; row = row; a = a; b = b; c = c }

  -- two terms alone
  abbrev pub of_terms : Term F → Term F → Combination F
  of_terms t u = record { first = t; second = u; row = 0; a = 𝟘; b = 𝟘; c = 𝟘 }

  -- what an entry of a matrix counts for
  abbrev pub matrix_factor : Combination F → ℕ → F
  matrix_factor k matrix = only O matrix 0 k.a ⊕ only O matrix 1 k.b ⊕ only O matrix 2 k.c

  -- the coefficient of wire w in the two terms
  unfoldable pub own : Combination F → ℕ → F
  own k w = only O k.first.wire w k.first.coefficient ⊕ only O k.second.wire w k.second.coefficient

  -- the first wire below count, from a wire on, whose coefficient is not zero, with that coefficient; none where all are zero
  abbrev pub FirstTerm : (count from : ℕ) → (ℕ → F) → Option (Term F) → Type 0
  FirstTerm count from f r =
      MatchOption r
      ((w : ℕ) → from ≤ w → w < count → f w ≡ 𝟘)
      (λ t. (from ≤ t.wire) × (t.wire < count) × (t.coefficient ≡ f t.wire) × (¬ (t.coefficient ≡ 𝟘)) × ((w : ℕ) → from ≤ w → w < t.wire → f w ≡ 𝟘))

-- c gives the coefficient of each position of the sheet
module _ {F : Type 0} (O : Operations F) (S : Shape) (c : (matrix row wire : ℕ) → F) where
  open O use {add as ◌⊕◌, mul as ◌⊗◌}

  infixl 60 ◌⊕◌
  infixl 70 ◌⊗◌
  -- the coefficient of wire w in the product row
  unfoldable pub weighted : Combination F → ℕ → F
  weighted k w = replaced O S (λ v. k.a ⊗ c 0 k.row v ⊕ k.b ⊗ c 1 k.row v ⊕ k.c ⊗ c 2 k.row v) w

  -- in both
  abbrev pub combined : Combination F → ℕ → F
  combined k w = own O k w ⊕ weighted k w
