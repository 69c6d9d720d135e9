-- Text: numbers in decimal, elements by their coordinates, and what a writer is given of them.
use Rattle.std.specs.Prelude.{ℕ, zero, suc, ◌≤◌, List, [], ◌∷◌, ◌++◌, length, decimal}
use Rattle.writing.specs.declared.writer.Writer.{Writer}
use Rattle.writing.specs.Written.{rest, Appends}

-- there was room for these bytes, and they are written
pub record Appended (old : Writer) (ys : List ℕ) (new : Writer) : Type 0 where
  pub room : length ys ≤ length (rest old)
  pub appends : Appends old ys new

-- the numbers, each behind this byte
unfoldable pub each_behind : ℕ → List ℕ → List ℕ
each_behind byte [] = []
each_behind byte (v ∷ vs) = byte ∷ (decimal v ++ each_behind byte vs)

-- an element by its coordinates, joined by commas
unfoldable pub element_text : List ℕ → List ℕ
element_text [] = []
element_text (v ∷ vs) = decimal v ++ each_behind 44 vs

-- elements by their coordinates, each behind a space
unfoldable pub elements_text : List (List ℕ) → List ℕ
elements_text [] = []
elements_text (x ∷ xs) = 32 ∷ (element_text x ++ elements_text xs)

-- what coordinate number i adds to its element's text
abbrev pub piece : ℕ → ℕ → List ℕ
piece zero c = decimal c
piece (suc i) c = 44 ∷ decimal c

-- a line: a word, then two numbers, each behind a space
abbrev pub numbers_line : List ℕ → (a b : ℕ) → List ℕ
numbers_line word a b = word ++ (each_behind 32 (a ∷ b ∷ []) ++ (10 ∷ []))

-- a line: a word, then elements, each behind a space
abbrev pub elements_line : List ℕ → List (List ℕ) → List ℕ
elements_line word xs = word ++ (elements_text xs ++ (10 ∷ []))
