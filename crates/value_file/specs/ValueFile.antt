-- The values of a square program's wires as an assignment file.
use Rattle.std.specs.Prelude.{ℕ, Bool, List, [], ◌∷◌, map, length}
use Rattle.std.specs.List.{list_all}
use Rattle.field.specs.Operations.{Operations}
use Rattle.frames.specs.Sections.{Block, file_bytes}
use Rattle.writing.specs.Plain.{numbered, is_plain}
use Rattle.assignments.specs.Assigned.{magic}
use Rattle.assignments.specs.Assignment.{header_bytes, value_bytes}

abbrev pub block : ℕ → List ℕ → Block
block kind payload = record { kind = kind; payload = payload }

module _ {F : Type 0} (O : Operations F) (p : ℕ) where
  -- every value has a number
  abbrev pub all_plain : List F → Bool
  all_plain vs = list_all (is_plain O p) vs

  abbrev pub numbers : List F → List ℕ
  numbers vs = map (numbered O p) vs

  -- a header, and the numbers of the values
  unfoldable pub value_file_bytes : List F → List ℕ
  value_file_bytes vs =
      file_bytes magic 2 (block 1 (header_bytes p (length vs)) ∷ (block 2 (value_bytes (numbers vs)) ∷ []))
