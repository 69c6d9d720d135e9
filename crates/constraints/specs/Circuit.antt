-- What a constraint file is: a circuit, encoded in the sections of a file.
use Rattle.std.specs.Prelude.{◌≡◌, ℕ, ◌+◌, ◌^◌, ◌<◌, ◌≤◌, List, [], ◌∷◌, ◌++◌, length, drop, Some, None, Option, MatchOption}
use Rattle.std.specs.List.{AllByRecursion}
use Rattle.frames.specs.Little.{little, le4, le8, Bytes}
use Rattle.frames.specs.Sections.{Block, section_of, Consists}
use Rattle.constraints.specs.declared.item.Item.{Item}
use Rattle.constraints.specs.Opened.{magic, opened}

-- a row: the three lists of a product
pub record Line : Type 0 where
  pub a : List Item
  pub b : List Item
  pub c : List Item

pub record Circuit : Type 0 where
  pub prime : ℕ
  pub wires : ℕ
  pub outputs : ℕ
  pub inputs : ℕ
  pub private : ℕ
  pub labels : ℕ
  pub rows : List Line

unfoldable pub item_bytes : List Item → List ℕ
item_bytes [] = []
item_bytes (i ∷ is) = little 4 i.wire ++ (little 8 i.coefficient ++ item_bytes is)

unfoldable pub list_bytes : List Item → List ℕ
list_bytes is = little 4 (length is) ++ item_bytes is

unfoldable pub row_bytes : List Line → List ℕ
row_bytes [] = []
row_bytes (l ∷ ls) = list_bytes l.a ++ (list_bytes l.b ++ (list_bytes l.c ++ row_bytes ls))

-- field size, prime, wires, outputs, inputs, private inputs, labels, rows
unfoldable pub header_bytes : Circuit → List ℕ
header_bytes c =
    little 4 8 ++ (little 8 c.prime ++ (little 4 c.wires ++ (little 4 c.outputs ++ (little 4 c.inputs
    ++ (little 4 c.private ++ (little 8 c.labels ++ little 4 (length c.rows)))))))

-- wires and coefficients are below their bounds, and the count has 4 bytes
abbrev pub Below : ℕ → ℕ → List Item → Type 0
Below w p is = (length is < 2 ^ 32) × AllByRecursion (λ i. (i.wire < w) × (i.coefficient < p)) is

-- each number is small enough for its bytes, and the circuit is in order
pub record Proper (c : Circuit) : Type 0 where
  pub prime : c.prime < 2 ^ 64
  pub wires : c.wires < 2 ^ 32
  pub enough : 1 + c.outputs + c.inputs + c.private ≤ c.wires
  pub labels : c.labels < 2 ^ 64
  pub count : length c.rows < 2 ^ 32
  pub rows : AllByRecursion (λ l. Below c.wires c.prime l.a × Below c.wires c.prime l.b × Below c.wires c.prime l.c) c.rows

-- the bytes are a file whose header and rows are those of this circuit over the prime
pub record Encodes (xs : List ℕ) (p : ℕ) (c : Circuit) : Type 0 where
  pub sections : List Block
  pub file : Consists magic 1 xs sections
  pub header : section_of 1 sections ≡ Some (header_bytes c)
  pub body : section_of 2 sections ≡ Some (row_bytes c.rows)
  pub prime : c.prime ≡ p
  pub proper : Proper c

-- wires of 4 bytes and coefficients of 8
abbrev pub Small : List Item → Type 0
Small is = AllByRecursion (λ i. (i.wire < 2 ^ 32) × (i.coefficient < 2 ^ 64)) is

-- an item is taken off the front of bytes, if they have 12
abbrev pub TakesItem : List ℕ → Option Item → List ℕ → Type 0
TakesItem xs r ys =
    MatchOption r
    ((length xs < 12) × (ys ≡ xs))
    (λ i. (12 ≤ length xs) × (i.wire ≡ le4 xs 0) × (i.coefficient ≡ le8 xs 4) × (ys ≡ drop 12 xs))

-- a file is granted exactly when it encodes a circuit over the prime, and it encodes one only
abbrev pub OpensExactly : Type 0
OpensExactly =
    (xs : List ℕ) (p : ℕ) → Bytes xs
    → (opened xs p ≡ None → (c : Circuit) × Encodes xs p c)
    × ((c : Circuit) → Encodes xs p c → opened xs p ≡ None)
    × ((c d : Circuit) → Encodes xs p c → Encodes xs p d → c ≡ d)
