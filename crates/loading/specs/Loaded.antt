-- What load answers and leaves, for all inputs.
use Rattle.std.specs.Prelude.{◌≡◌, ℕ, ◌+◌, ◌&&◌, List, length, None, Ok, Result, ◌==◌, nat_le}
use Rattle.refusal.specs.Due.{Due, Decided, unless}
use Rattle.refusal.specs.declared.refused.Refused.{Refused}
use Rattle.field.specs.Operations.{Operations}
use Rattle.frames.specs.Faults.{check}
use Rattle.sheet.specs.Shape.{Shape}
use Rattle.sheet.specs.Rules.{table_size, planned}
use Rattle.sheet.specs.Outcomes.{Answer, Made, shape, first_values}
use Rattle.sheet.specs.Model.{Model, sheet, Stands, fresh, after_all}
use Rattle.sheet.specs.declared.head.Head.{Head}
use Rattle.sheet.specs.declared.entry.Entry.{Entry}
use Rattle.runs.specs.Runs.{Run}
use Rattle.constraints.specs.declared.header.Header.{Header}
use Rattle.constraints.specs.declared.reader.RowReader.{RowReader}
use Rattle.constraints.specs.Circuit.{Circuit, Proper}
use Rattle.constraints.specs.Reader.{again, Starts}
use Rattle.loading.specs.Rows.{rows_of, item_count}
use Rattle.loading.specs.Entries.{entries_from, enters}

-- the sheet of a file: its wires, of which the one, the outputs and the inputs are public, and its rows
abbrev pub file_shape : Header → Shape
file_shape h = shape h.wires (1 + h.outputs + h.inputs) h.rows

abbrev pub circuit_shape : Circuit → Shape
circuit_shape c = shape c.wires (1 + c.outputs + c.inputs) (length c.rows)

-- p is the field's prime, prime and place are the file's and where it stands, entries and values are the lengths of the tables
module _ {F : Type 0} (O : Operations F) (p : ℕ) where
  -- all but the count of items, which the lines below look at
  abbrev pub numbers_due : (prime place : ℕ) → Shape → (entries values : ℕ) → Due → Due
  numbers_due prime place S entries values below =
      check (prime == p) 9 place
      (planned O S
      (unless (values == S.m && entries == table_size) 5 below))

  abbrev pub load_due : (prime place : ℕ) → Shape → (items entries values : ℕ) → Due
  load_due prime place S items entries values = numbers_due prime place S entries values (unless (nat_le items table_size) 4 None)

  abbrev pub reader_due : RowReader → (entries values : ℕ) → Due
  reader_due s = load_due s.header.prime s.prime_at (file_shape s.header) (item_count (rows_of s))

  abbrev pub circuit_due : (place : ℕ) → Circuit → (entries values : ℕ) → Due
  circuit_due place c = load_due c.prime place (circuit_shape c) (item_count c.rows)

-- every item of the circuit, in the order of the file, and no value but the one
abbrev pub loaded_model : {F : Type 0} → Operations F → Circuit → Model F
loaded_model O c = record { shape = circuit_shape c; entries = entries_from O 0 c.rows; values = first_values O c.wires }

module _ {F : Type 0} (O : Operations F) (p : ℕ) (s : RowReader) (es : List (Entry F)) (vs : List F) where
  -- a sheet made, and the reader's rows entered: es and vs are the tables before, es' and vs' after
  pub record Filled (h : Head) (es' : List (Entry F)) (vs' : List F) : Type 0 where
    pub first : Head
    pub made : Made O (file_shape s.header) vs (Ok first) vs'
    pub answers : List Answer
    pub run : Run O (sheet first es vs') (enters O p (rows_of s)) answers (sheet h es' vs')
    pub stands : Stands O (sheet h es' vs') (after_all (fresh O (file_shape s.header)) (enters O p (rows_of s)))

  -- any reader
  abbrev pub Loaded : Result Head Refused → List (Entry F) → List F → Type 0
  Loaded r es' vs' = Decided (reader_due O p s (length es) (length vs)) r (λ h. Filled h es' vs') ((es' ≡ es) × (vs' ≡ vs))

  -- a reader over the rows of a circuit, whatever rows were taken: the sheet then has exactly the circuit's items
  abbrev pub LoadsCircuit : Result Head Refused → List (Entry F) → List F → Type 0
  LoadsCircuit r es' vs' =
      (c : Circuit) → Starts (again s) c → Proper c
      → Decided (circuit_due O p s.prime_at c (length es) (length vs)) r
      (λ h. Stands O (sheet h es' vs') (loaded_model O c))
      ((es' ≡ es) × (vs' ≡ vs))
