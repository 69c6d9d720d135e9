-- A reader over a file's bytes, and what it hands out.
use Rattle.std.specs.Prelude.{◌≡◌, ℕ, ◌+◌, ◌*◌, ◌^◌, ◌<◌, ◌≤◌, List, [], ◌∷◌, ◌++◌, length, drop, Option, Result, MatchOption, MatchResult}
use Rattle.std.specs.List.{AllByRecursion}
use Rattle.frames.specs.Little.{le4, le8, part}
use Rattle.frames.specs.Checks.{place_of}
use Rattle.constraints.specs.declared.header.Header.{Header}
use Rattle.constraints.specs.declared.item.Item.{Item}
use Rattle.constraints.specs.declared.item.reader.ItemReader.{ItemReader}
use Rattle.constraints.specs.declared.row.Row.{Row}
use Rattle.constraints.specs.declared.reader.RowReader.{RowReader}
use Rattle.refusal.specs.Due.{Decided}
use Rattle.refusal.specs.declared.refused.Refused.{Refused}
use Rattle.constraints.specs.Lists.{first_of, rest_of}
use Rattle.constraints.specs.Opened.{beyond, header, rows_at, rows_stop, opened}
use Rattle.constraints.specs.Circuit.{Line, Circuit, item_bytes, row_bytes, Encodes, Small, TakesItem}

-- the numbers of a header of 40 bytes
pub record Tells (h : Header) (hs : List ℕ) : Type 0 where
  pub prime : h.prime ≡ le8 hs 4
  pub wires : h.wires ≡ le4 hs 12
  pub outputs : h.outputs ≡ le4 hs 16
  pub inputs : h.inputs ≡ le4 hs 20
  pub private : h.private ≡ le4 hs 24
  pub labels : h.labels ≡ le8 hs 28
  pub rows : h.rows ≡ le4 hs 36

-- the items of the list at a place, and the place after the row at a place
abbrev pub list_part : List ℕ → ℕ → List ℕ
list_part xs at = part xs (at + 4) (12 * le4 xs at)

abbrev pub after_row : List ℕ → ℕ → ℕ
after_row xs at = beyond xs (beyond xs (beyond xs at))

-- the row at a place
pub record Parts (xs : List ℕ) (at : ℕ) (w : Row) : Type 0 where
  pub a : w.a.now ≡ list_part xs at
  pub b : w.b.now ≡ list_part xs (beyond xs at)
  pub c : w.c.now ≡ list_part xs (beyond xs (beyond xs at))

-- a row is left, and it ends where the rows do, at the latest
pub record Has (s : RowReader) : Type 0 where
  pub left : 0 < s.left
  pub inside : after_row s.bytes.now s.at ≤ s.stop
  pub within : s.stop ≤ length s.bytes.now

-- the reader before its first row
abbrev pub again : RowReader → RowReader
again s = record { bytes = s.bytes; header = s.header; prime_at = s.prime_at; first = s.first; stop = s.stop; at = s.first; left = s.header.rows }

-- the reader of an opened file
pub record Stood (xs : List ℕ) (s : RowReader) : Type 0 where
  pub bytes : s.bytes.now ≡ xs
  pub numbers : Tells s.header (header xs)
  pub prime_at : s.prime_at ≡ place_of xs 1 + 16
  pub first : s.first ≡ rows_at xs
  pub stop : s.stop ≡ rows_stop xs
  pub start : s ≡ again s

-- these rows, and nothing else, stand between the reader's place and the end of its rows
pub record Ahead (s : RowReader) (ls : List Line) : Type 0 where
  pub here : drop s.at s.bytes.now ≡ row_bytes ls ++ drop s.stop s.bytes.now
  pub size : s.at + length (row_bytes ls) ≡ s.stop
  pub within : s.stop ≤ length s.bytes.now
  pub left : s.left ≡ length ls
  pub counts : AllByRecursion (λ l. (length l.a < 2 ^ 32) × (length l.b < 2 ^ 32) × (length l.c < 2 ^ 32)) ls

-- the row handed out is the first of these
abbrev pub First : List Line → Row → Type 0
First [] w = ⊥
First (l ∷ ls) w = (w.a.now ≡ item_bytes l.a) × (w.b.now ≡ item_bytes l.b) × (w.c.now ≡ item_bytes l.c)

-- the reader has the circuit's numbers, and stands before its rows
pub record Starts (s : RowReader) (c : Circuit) : Type 0 where
  pub prime : s.header.prime ≡ c.prime
  pub wires : s.header.wires ≡ c.wires
  pub outputs : s.header.outputs ≡ c.outputs
  pub inputs : s.header.inputs ≡ c.inputs
  pub private : s.header.private ≡ c.private
  pub labels : s.header.labels ≡ c.labels
  pub rows : s.header.rows ≡ length c.rows
  pub ahead : Ahead s c.rows

-- opened as the checks say
abbrev pub Checked : List ℕ → ℕ → Result RowReader Refused → Type 0
Checked xs p r = Decided (opened xs p) r (λ s. Stood xs s) (Unit {0})

-- granted where the bytes encode a circuit, which the reader then starts; refused where they encode none
abbrev pub ReadsCircuit : List ℕ → ℕ → Result RowReader Refused → Type 0
ReadsCircuit xs p r =
    MatchResult r
    (λ s. ((c : Circuit) × Encodes xs p c) × ((c : Circuit) → Encodes xs p c → Starts s c))
    (λ _. (c : Circuit) → ¬ Encodes xs p c)

-- any reader: it hands out the row at its place, if it has one, and then stands after it
abbrev pub Takes : RowReader → Option Row → RowReader → Type 0
Takes s r t =
    MatchOption r
    ((t ≡ s) × ¬ (Has s))
    (λ w. Has s × Parts s.bytes.now s.at w × (t.at ≡ after_row s.bytes.now s.at) × (t.left + 1 ≡ s.left))

-- a reader before these rows: it hands out the first, and then stands before the others
abbrev pub TakesFirst : List Line → Option Row → RowReader → Type 0
TakesFirst ls r t = MatchOption r (ls ≡ []) (λ w. First ls w × Ahead t (rest_of ls))

-- what a call of `next` does: the reader stays over the same rows; `row` holds of any reader, `read` of one that stands before the rows of a circuit
pub record HandsRow (s : RowReader) (r : Option Row) (t : RowReader) : Type 0 where
  pub kept : again t ≡ again s
  pub row : Takes s r t
  pub read : (ls : List Line) → Ahead s ls → TakesFirst ls r t

-- the same of the items of a part: `bytes` holds of any bytes, `items` of those that a list of items was written to
pub record HandsItem (s : ItemReader) (r : Option Item) (t : ItemReader) : Type 0 where
  pub bytes : TakesItem s.rest.now r t.rest.now
  pub items : (is : List Item) → Small is → s.rest.now ≡ item_bytes is → (r ≡ first_of is) × (t.rest.now ≡ item_bytes (rest_of is))
