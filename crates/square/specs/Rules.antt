-- Which refusal extend, sums, quotient and public owe, line by line and in order.
use Rattle.std.specs.Prelude.{ℕ, ◌+◌, ◌-◌, ◌*◌, Bool, ◌&&◌, List, None, ◌==◌, nat_le, nat_lt}
use Rattle.std.specs.List.{list_all}
use Rattle.refusal.specs.Due.{Due, unless, unless_at}
use Rattle.field.specs.Operations.{Operations, decided}
use Rattle.transform.specs.Polynomial.{coefficient}
use Rattle.sheet.specs.Shape.{Shape, log_of_n, n, columns}
use Rattle.sheet.specs.Rules.{table_size, inside}
use Rattle.sheet.specs.declared.entry.Entry.{Entry}
use Rattle.square.specs.Rows.{position, failing_row}

-- every used entry lies within the sheet
abbrev pub all_inside : {F : Type 0} → Shape → List (Entry F) → Bool
all_inside S es = list_all (λ e. inside S e.matrix e.row e.wire) es

module _ {F : Type 0} (O : Operations F) (S : Shape) where
  abbrev pub starts_with_one : List F → Bool
  starts_with_one vs = decided (O.same (coefficient O vs 0) O.one)

  -- entries, values, out and work: the lengths of entry table, value table, result and working buffer;
  -- used and vs: the used entries, and the value table itself
  abbrev pub extend_due : (entries values out : ℕ) → List (Entry F) → List F → Due
  extend_due entries values out used vs =
      unless (entries == table_size && (values == S.m && out == columns S)) 5
      (unless (starts_with_one vs && all_inside S used) 6 None)

  abbrev pub sums_due : (entries values row : ℕ) → List (Entry F) → List F → Due
  sums_due entries values row used vs =
      unless (entries == table_size && values == S.m) 5
      (unless (nat_lt row S.N) 3
      (unless (starts_with_one vs && all_inside S used) 6 None))

  abbrev pub quotient_due : (entries values out work : ℕ) → List (Entry F) → List F → Due
  quotient_due entries values out work used vs =
      unless (nat_le (log_of_n S) O.adicity) 2
      (unless (entries == table_size && (values == S.m && (out == n S - 1 && work == columns S + 4 * n S))) 5
      (unless (starts_with_one vs && all_inside S used) 6
      (unless_at (failing_row O S (position O used) (coefficient O vs)) 7 None)))

  abbrev pub public_due : (values out : ℕ) → List F → Due
  public_due values out vs =
      unless (nat_le (log_of_n S) O.adicity) 2
      (unless (values == S.m && out == n S) 5
      (unless (starts_with_one vs) 6 None))
