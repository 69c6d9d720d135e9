-- The kinds of rows as the code has them.
use Rattle.std.specs.Prelude.{◌<◌}
use Rattle.sheet.specs.Shape.{Shape}
use Rattle.square.specs.Program.{Kind, public_plus, public_minus, row_minus, row_plus, empty}
use Rattle.square_rows.specs.declared.row_kind.RowKind.{RowKind}
use Rattle.square_rows.specs.declared.row_kind.RowKind.TheVariants.{PublicPlus, PublicMinus, RowMinus, RowPlus, Empty}

abbrev pub shown : RowKind → Kind
shown (PublicPlus j) = public_plus j
shown (PublicMinus j) = public_minus j
shown (RowMinus i) = row_minus i
shown (RowPlus i) = row_plus i
shown Empty = empty

-- of a public wire or a product row that the sheet has
abbrev pub Within : Shape → RowKind → Type 0
Within S (PublicPlus j) = j < S.l
Within S (PublicMinus j) = j < S.l
Within S (RowMinus i) = i < S.N
Within S (RowPlus i) = i < S.N
Within S Empty = Unit {0}
