-- What writing the program answers and leaves.
use Rattle.std.specs.Prelude.{◌≡◌, ℕ, List, ◌++◌, length, take, drop, None, Result, MatchResult, ◌==◌, nat_le}
use Rattle.refusal.specs.Due.{Due, unless, Decided}
use Rattle.refusal.specs.declared.refused.Refused.{Refused}
use Rattle.field.specs.Operations.{Operations}
use Rattle.sheet.specs.Shape.{Shape, n}
use Rattle.sheet.specs.Rules.{table_size}
use Rattle.sheet.specs.Outcomes.{shape_of}
use Rattle.sheet.specs.declared.head.Head.{Head}
use Rattle.sheet.specs.declared.entry.Entry.{Entry}
use Rattle.square.specs.Rows.{position}
use Rattle.square.specs.Rules.{all_inside}
use Rattle.constraints.specs.Circuit.{Encodes}
use Rattle.square_file.specs.SquareFile.{plain_rows, square_circuit, square_file_bytes}

module _ {F : Type 0} (O : Operations F) (p : ℕ) where
  -- entries and room: the lengths of entry table and buffer; used: the used entries
  abbrev pub square_file_due : Shape → (entries room : ℕ) → List (Entry F) → Due
  square_file_due S entries room used =
      unless (entries == table_size) 5
      (unless (all_inside S used) 6
      (unless (plain_rows O p S (position O used) (n S)) 12
      (unless (nat_le (length (square_file_bytes O p S (position O used))) room) 13 None)))

  -- the buffer begins with the file, whose length is the answer, and is as it was behind it
  abbrev pub Written : Head → List (Entry F) → (out : List ℕ) → Result ℕ Refused → (out' : List ℕ) → Type 0
  Written h es out r out' =
      let used = take h.used es in
      let file = square_file_bytes O p (shape_of h) (position O used) in
      Decided (square_file_due (shape_of h) (length es) (length out) used) r
      (λ n. (n ≡ length file) × (out' ≡ file ++ drop n out))
      (out' ≡ out)

  -- what is written is a constraint file of the square program
  abbrev pub Readable : Head → List (Entry F) → Result ℕ Refused → (out' : List ℕ) → Type 0
  Readable h es r out' =
      MatchResult r
      (λ n. Encodes (take n out') p (square_circuit O p (shape_of h) (position O (take h.used es))))
      (λ _. Unit {0})
