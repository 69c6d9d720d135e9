-- What writing the values, and reading them back, answer and leave.
use Rattle.std.specs.Prelude.{◌≡◌, ℕ, List, ◌++◌, map, length, take, drop, None, Result, MatchResult, ◌==◌, nat_le}
use Rattle.refusal.specs.Due.{Due, unless, Decided}
use Rattle.refusal.specs.declared.refused.Refused.{Refused}
use Rattle.field.specs.Operations.{Operations, ones}
use Rattle.sheet.specs.Shape.{Shape, columns}
use Rattle.sheet.specs.Outcomes.{Answer, shape_of}
use Rattle.sheet.specs.declared.head.Head.{Head}
use Rattle.square.specs.Rules.{starts_with_one}
use Rattle.assignments.specs.Assignment.{Encodes}
use Rattle.value_file.specs.ValueFile.{all_plain, numbers, value_file_bytes}

module _ {F : Type 0} (O : Operations F) (p : ℕ) where
  -- room: the length of the buffer
  abbrev pub value_file_due : Shape → List F → (room : ℕ) → Due
  value_file_due S vs room =
      unless (length vs == columns S) 5
      (unless (starts_with_one O S vs) 6
      (unless (all_plain O p vs) 12
      (unless (nat_le (length (value_file_bytes O p vs)) room) 13 None)))

  -- the buffer begins with the file, whose length is the answer, and is as it was behind it
  abbrev pub Written : Head → List F → (out : List ℕ) → Result ℕ Refused → (out' : List ℕ) → Type 0
  Written h vs out r out' =
      Decided (value_file_due (shape_of h) vs (length out)) r
      (λ n. (n ≡ length (value_file_bytes O p vs)) × (out' ≡ value_file_bytes O p vs ++ drop n out))
      (out' ≡ out)

  -- what is written is an assignment file of numbers whose elements are the values
  abbrev pub Readable : Head → List F → Result ℕ Refused → (out' : List ℕ) → Type 0
  Readable h vs r out' =
      MatchResult r
      (λ n. Encodes (take n out') p (columns (shape_of h)) (numbers O p vs) × (map (ones O) (numbers O p vs) ≡ vs))
      (λ _. Unit {0})

  -- the table has the values again
  abbrev pub ReadBack : Head → List F → (out : List ℕ) (table : List F) → Answer → (out' : List ℕ) (table' : List F) → Type 0
  ReadBack h vs out table r out' table' =
      Decided (unless (length table == columns (shape_of h)) 5 (value_file_due (shape_of h) vs (length out))) r
      (λ _. (out' ≡ value_file_bytes O p vs ++ drop (length (value_file_bytes O p vs)) out) × (table' ≡ vs))
      ((out' ≡ out) × (table' ≡ table))
