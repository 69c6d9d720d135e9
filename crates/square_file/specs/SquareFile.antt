-- The square program as a constraint file.
use Rattle.std.specs.Prelude.{ℕ, zero, suc, ◌-◌, Bool, true, ◌&&◌, List, [], ◌∷◌, ◌++◌}
use Rattle.field.specs.Operations.{Operations}
use Rattle.transform.specs.Polynomial.{table}
use Rattle.sheet.specs.Shape.{Shape, n, columns}
use Rattle.square.specs.Program.{kind, U, W}
use Rattle.square_rows.specs.declared.term.Term.{Term}
use Rattle.frames.specs.Little.{little}
use Rattle.frames.specs.Sections.{Block, file_bytes}
use Rattle.constraints.specs.Opened.{magic}
use Rattle.constraints.specs.Circuit.{Line, Circuit, header_bytes, row_bytes}
use Rattle.square_rows.specs.Terms.{terms}
use Rattle.square_file.specs.Terms.{all_plain, items}

abbrev pub block : ℕ → List ℕ → Block
block kind payload = record { kind = kind; payload = payload }

-- so many labels, each its own number: 0, 1, 2, ..
unfoldable pub label_bytes : ℕ → List ℕ
label_bytes zero = []
label_bytes (suc count) = label_bytes count ++ little 8 count

-- c gives the coefficient of each position of the sheet
module _ {F : Type 0} (O : Operations F) (p : ℕ) (S : Shape) (c : (matrix row wire : ℕ) → F) where
  open S use {l}

  -- the sum that row r squares, and the sum that the square is to be
  abbrev pub left_terms : ℕ → List (Term F)
  left_terms r = terms O (columns S) 0 (U O S c (kind S r))

  abbrev pub right_terms : ℕ → List (Term F)
  right_terms r = terms O (columns S) 0 (W O S c (kind S r))

  -- a square is a product of equal factors
  unfoldable pub line : ℕ → Line
  line r = record { a = items O p (left_terms r); b = items O p (left_terms r); c = items O p (right_terms r) }

  -- every coefficient of row r, and of so many rows, has a number below the prime
  abbrev pub plain_row : ℕ → Bool
  plain_row r = all_plain O p (left_terms r) && all_plain O p (right_terms r)

  unfoldable pub plain_rows : ℕ → Bool
  plain_rows zero = true
  plain_rows (suc r) = plain_rows r && plain_row r

  -- of the public wires, all but the constant one are inputs
  abbrev pub square_circuit : Circuit
  square_circuit =
      record { prime = p; wires = columns S; outputs = 0; inputs = l - 1; private = 0; labels = columns S; rows = table (n S) line }

  -- header, rows and labels
  unfoldable pub square_file_bytes : List ℕ
  square_file_bytes =
      file_bytes magic 1
      (block 1 (header_bytes square_circuit) ∷ block 2 (row_bytes square_circuit.rows) ∷ block 3 (label_bytes (columns S)) ∷ [])
