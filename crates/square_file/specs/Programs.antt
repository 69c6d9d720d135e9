-- A program's parts in the file, by its sheet and its used entries.
use Rattle.std.specs.Prelude.{ℕ, Bool, List, [], ◌∷◌}
use Rattle.field.specs.Operations.{Operations}
use Rattle.transform.specs.Polynomial.{table}
use Rattle.sheet.specs.Shape.{Shape, n}
use Rattle.sheet.specs.Outcomes.{shape_of}
use Rattle.square.specs.Rows.{position}
use Rattle.square_rows.specs.declared.term.Term.{Term}
use Rattle.square_rows.specs.declared.combination.Combination.{Combination}
use Rattle.square_rows.specs.Terms.{terms_of}
use Rattle.constraints.specs.Circuit.{row_bytes}
use Rattle.square_file.specs.declared.program.Program.{Program}
use Rattle.square_file.specs.SquareFile.{line, plain_row, plain_rows, square_file_bytes}

abbrev pub shape : {F : Type 0} → Program F → Shape
shape P = shape_of P.head.now

module _ {F : Type 0} (O : Operations F) where
  -- the coefficient of each position
  abbrev pub entries : Program F → (matrix row wire : ℕ) → F
  entries P = position O P.used.now

  abbrev pub side_terms : Program F → Combination F → List (Term F)
  side_terms P k = terms_of O (shape P) P.used.now k

  module _ (p : ℕ) (P : Program F) where
    abbrev pub row : ℕ → List ℕ
    row r = row_bytes (line O p (shape P) (entries P) r ∷ [])

    abbrev pub rows : List ℕ
    rows = row_bytes (table (n (shape P)) (line O p (shape P) (entries P)))

    abbrev pub file : List ℕ
    file = square_file_bytes O p (shape P) (entries P)

    -- every coefficient of row r, and of all rows, has a number
    abbrev pub is_plain_row : ℕ → Bool
    is_plain_row r = plain_row O p (shape P) (entries P) r

    abbrev pub is_plain : Bool
    is_plain = plain_rows O p (shape P) (entries P) (n (shape P))
