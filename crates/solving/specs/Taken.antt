-- What two files make of a sheet.
use Rattle.std.specs.Prelude.{◌≡◌, ℕ, List, map, length, None, Result, nat_le}
use Rattle.refusal.specs.Due.{Due, Decided, unless}
use Rattle.refusal.specs.declared.refused.Refused.{Refused}
use Rattle.field.specs.Operations.{Operations, ones}
use Rattle.frames.specs.Faults.{check, then}
use Rattle.sheet.specs.Rules.{table_size, planned}
use Rattle.sheet.specs.Model.{Model, sheet, Stands}
use Rattle.sheet.specs.declared.head.Head.{Head}
use Rattle.sheet.specs.declared.entry.Entry.{Entry}
use Rattle.constraints.specs.declared.reader.RowReader.{RowReader}
use Rattle.constraints.specs.Circuit.{Circuit, Proper}
use Rattle.constraints.specs.Reader.{again, Starts}
use Rattle.assignments.specs.Assigned.{values, values_at, assigned}
use Rattle.assignments.specs.Assignment.{Encodes}
use Rattle.loading.specs.Rows.{item_count}
use Rattle.loading.specs.Entries.{entries_from}
use Rattle.loading.specs.Loaded.{circuit_shape, reader_due, circuit_due, Filled}

-- the rows of the circuit with these values
abbrev pub files_model : {F : Type 0} → Operations F → Circuit → List ℕ → Model F
files_model O c vs = record { shape = circuit_shape c; entries = entries_from O 0 c.rows; values = map (ones O) vs }

-- what a circuit owes, whatever tables it is loaded into: limits, root, count of items
abbrev pub sheet_due : {F : Type 0} → Operations F → Circuit → Due
sheet_due O c = planned O (circuit_shape c) (unless (nat_le (item_count c.rows) table_size) 4 None)

-- an assignment file ws of at most so many bytes, over the prime p, for so many places
abbrev pub witness_due : (ws : List ℕ) (most p places : ℕ) → Due
witness_due ws most p places = check (nat_le (length ws) most) 5 0 (assigned ws p places)

-- s and ws: the opened constraint file and the assignment file; es and vs, es' and vs': the tables before and after
module _ {F : Type 0} (O : Operations F) (p : ℕ) (s : RowReader) (ws : List ℕ) (most : ℕ) (es : List (Entry F)) (vs : List F) where
  -- any reader
  abbrev pub Taken : Result Head Refused → List (Entry F) → List F → Type 0
  Taken r es' vs' =
      Decided (then (reader_due O p s (length es) (length vs)) (witness_due ws most p (length vs))) r
      (λ h. (first : List F) × Filled O p s es vs h es' first × (vs' ≡ map (ones O) (values ws (length vs) (values_at ws))))
      (Unit {0})

  -- a reader over the rows of a circuit: the sheet then has the circuit's rows and the values that the second file encodes
  abbrev pub TakesFiles : Result Head Refused → List (Entry F) → List F → Type 0
  TakesFiles r es' vs' =
      (c : Circuit) → Starts (again s) c → Proper c
      → Decided (then (circuit_due O p s.prime_at c (length es) (length vs)) (witness_due ws most p (length vs))) r
      (λ h. (zs : List ℕ) × Encodes ws p c.wires zs × Stands O (sheet h es' vs') (files_model O c zs))
      (Unit {0})
