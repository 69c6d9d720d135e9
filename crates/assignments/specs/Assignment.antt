-- What an assignment file is: values below a prime, encoded in the sections of a file.
use Rattle.std.specs.Prelude.{◌≡◌, ℕ, ◌^◌, ◌<◌, ◌≤◌, List, [], ◌∷◌, ◌++◌, length, Some, None, slice_index_or}
use Rattle.std.specs.List.{AllByRecursion}
use Rattle.frames.specs.Little.{little, Bytes}
use Rattle.frames.specs.Sections.{Block, section_of, Consists}
use Rattle.assignments.specs.Assigned.{magic, assigned}

-- field size, prime, count
unfoldable pub header_bytes : ℕ → ℕ → List ℕ
header_bytes p n = little 4 8 ++ (little 8 p ++ little 4 n)

unfoldable pub value_bytes : List ℕ → List ℕ
value_bytes [] = []
value_bytes (v ∷ vs) = little 8 v ++ value_bytes vs

-- the bytes are a file of these n values, the first of them 1, over the prime p
pub record Encodes (xs : List ℕ) (p n : ℕ) (vs : List ℕ) : Type 0 where
  pub sections : List Block
  pub file : Consists magic 2 xs sections
  pub header : section_of 1 sections ≡ Some (header_bytes p n)
  pub body : section_of 2 sections ≡ Some (value_bytes vs)
  pub prime : p < 2 ^ 64
  pub count : length vs ≡ n
  pub some : 1 ≤ n
  pub room : n ≤ 3072
  pub first : slice_index_or vs 0 0 ≡ 1
  pub below : AllByRecursion (λ v. v < p) vs

-- a file is granted exactly when it encodes values over the prime, as many as the table has places, and it encodes one list only
abbrev pub ReadsExactly : Type 0
ReadsExactly =
    (xs : List ℕ) (p n : ℕ) → Bytes xs
    → (assigned xs p n ≡ None → (vs : List ℕ) × Encodes xs p n vs)
    × ((vs : List ℕ) → Encodes xs p n vs → assigned xs p n ≡ None)
    × ((vs ws : List ℕ) → Encodes xs p n vs → Encodes xs p n ws → vs ≡ ws)
