-- The rows that a reader stands over, told from its bytes and places alone.
use Rattle.std.specs.Prelude.{ℕ, zero, suc, ◌+◌, ◌/◌, cond, ◌&&◌, List, [], ◌∷◌, length, drop, nat_le}
use Rattle.frames.specs.Little.{le4, le8}
use Rattle.constraints.specs.declared.item.Item.{Item}
use Rattle.constraints.specs.declared.row.Row.{Row}
use Rattle.constraints.specs.declared.reader.RowReader.{RowReader}
use Rattle.constraints.specs.Opened.{beyond}
use Rattle.constraints.specs.Circuit.{Line}
use Rattle.constraints.specs.Reader.{list_part, after_row, again}

-- so many items from the front of a part, of 12 bytes each
unfoldable pub items_in : (count : ℕ) → List ℕ → List Item
items_in zero ys = []
items_in (suc n) ys = record { wire = le4 ys 0; coefficient = le8 ys 4 } ∷ items_in n (drop 12 ys)

-- all items of a part
abbrev pub items_of : List ℕ → List Item
items_of ys = items_in (length ys / 12) ys

-- a row that a reader handed out
abbrev pub line_of : Row → Line
line_of w = record { a = items_of w.a.now; b = items_of w.b.now; c = items_of w.c.now }

-- the row at a place
abbrev pub line_at : List ℕ → ℕ → Line
line_at xs at =
    record {
      a = items_of (list_part xs at);
      b = items_of (list_part xs (beyond xs at));
      c = items_of (list_part xs (beyond xs (beyond xs at)));
    }

-- at most so many rows from a place on, while each ends where the rows stop, at the latest; none where they would stop past the bytes
unfoldable pub lines : List ℕ → (stop left at : ℕ) → List Line
lines xs stop zero at = []
lines xs stop (suc left) at =
    cond (nat_le (after_row xs at) stop && nat_le stop (length xs)) (line_at xs at ∷ lines xs stop left (after_row xs at)) []

-- what a reader has still to hand out, and all that it stands over, whatever rows were taken
abbrev pub rows_ahead : RowReader → List Line
rows_ahead s = lines s.bytes.now s.stop s.left s.at

abbrev pub rows_of : RowReader → List Line
rows_of s = rows_ahead (again s)

abbrev pub item_count : List Line → ℕ
item_count [] = 0
item_count (l ∷ ls) = length l.a + length l.b + length l.c + item_count ls
