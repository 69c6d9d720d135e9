-- The last two lines of the table of refusals, where the lines above pass.
use Rattle.std.proofs.Common.{◌≡◌, ℕ, ◌<◌, ◌≤◌, true, List, length, Some, None}
use Rattle.std.proofs.lemmas.Bool.{eq-eqb, le-leb, lt-leb}
use Rattle.field.specs.Operations.{Operations}
use Rattle.sheet.specs.Shape.{Shape, n}
use Rattle.sheet.specs.Rules.{table_size}
use Rattle.sheet.specs.declared.entry.Entry.{Entry}
use Rattle.square.specs.Rows.{position}
use Rattle.square.specs.Rules.{all_inside}
use Rattle.square_file.specs.SquareFile.{plain_rows, square_file_bytes}
use Rattle.square_file.specs.Outcomes.{square_file_due}

module _ {F : Type 0} (O : Operations F) (p : ℕ) (S : Shape) (used : List (Entry F)) (entries room : ℕ)
    (size : entries ≡ table_size) (inside : all_inside S used ≡ true) (plain : plain_rows O p S (position O used) (n S) ≡ true) where
  pub too_short : room < length (square_file_bytes O p S (position O used)) → square_file_due O p S entries room used ≡ Some (13, 0)
  too_short h = rw (eq-eqb entries table_size size, inside, plain, lt-leb (length (square_file_bytes O p S (position O used))) room h)

  pub nothing_due : length (square_file_bytes O p S (position O used)) ≤ room → square_file_due O p S entries room used ≡ None
  nothing_due h = rw (eq-eqb entries table_size size, inside, plain, le-leb (length (square_file_bytes O p S (position O used))) room h)
