-- The items of rows as entries of a sheet, and entering them one after another.
use Rattle.std.specs.Prelude.{ℕ, ◌+◌, List, [], ◌∷◌, ◌++◌, map, filter, nat_lt}
use Rattle.field.specs.Operations.{Operations, ones}
use Rattle.sheet.specs.Rules.{table_size}
use Rattle.sheet.specs.Outcomes.{Answer, entry}
use Rattle.sheet.specs.Model.{sheet}
use Rattle.sheet.specs.declared.head.Head.{Head}
use Rattle.sheet.specs.declared.entry.Entry.{Entry}
use Rattle.sheet.specs.declared.call.Call.{Call}
use Rattle.sheet.specs.declared.call.Call.TheVariants.{Enter}
use Rattle.runs.specs.Runs.{Run}
use Rattle.constraints.specs.declared.item.Item.{Item}
use Rattle.constraints.specs.Circuit.{Line}

-- the items whose coefficient is below the prime; in an opened file that is every item
abbrev pub below : (p : ℕ) → List Item → List Item
below p = filter (λ i. nat_lt i.coefficient p)

abbrev pub line_below : (p : ℕ) → Line → Line
line_below p l = record { a = below p l.a; b = below p l.b; c = below p l.c }

-- the call that enters an entry into the sheet's own table
abbrev pub enter_call : {F : Type 0} → Entry F → Call F
enter_call e = Enter table_size e.matrix e.row e.wire e.coefficient

module _ {F : Type 0} (O : Operations F) where
  -- the items of a list in their order; a coefficient v as the v-fold sum of one
  abbrev pub list_entries : (matrix row : ℕ) → List Item → List (Entry F)
  list_entries matrix row = map (λ i. entry matrix row i.wire (ones O i.coefficient))

  -- A, B and C are the matrices 0, 1 and 2
  abbrev pub line_entries : (row : ℕ) → Line → List (Entry F)
  line_entries row l = list_entries 0 row l.a ++ (list_entries 1 row l.b ++ list_entries 2 row l.c)

  -- rows in their order, the first of them at this row of the sheet
  abbrev pub entries_from : (row : ℕ) → List Line → List (Entry F)
  entries_from row [] = []
  entries_from row (l ∷ ls) = line_entries row l ++ entries_from (row + 1) ls

  -- the calls that enter rows from row 0 on
  abbrev pub enters : (p : ℕ) → List Line → List (Call F)
  enters p ls = map enter_call (entries_from 0 (map (line_below p) ls))

  -- head and entry table before and after these entries are entered, each granted or refused as enter says
  unfoldable pub EntersAll : Head → List (Entry F) → List (Entry F) → Head → List (Entry F) → Type 0
  EntersAll h es news h' es' =
      (vs : List F) → (answers : List Answer) × Run O (sheet h es vs) (map enter_call news) answers (sheet h' es' vs)
