-- The sheets, worked out.
use Rattle.std.proofs.Common.{◌≡◌, [], ◌∷◌, refl, lit≤}
use native.Mathlib.Decide.{ℕ_discrete, dec_lt}
use Rattle.field.specs.Operations.{sum, power, ones, root_of_order}
use Rattle.modular.specs.Field97.{ops97}
use Rattle.transform.specs.Polynomial.{table, value_at, product_at}
use Rattle.sheet.specs.Shape.{first, log_up}
use Rattle.square.specs.Rows.{first_failure, only, position, dot, failing_row}
use Rattle.square.specs.Program.{by_turns, others, public_kind, product_kind, kind, image, replaced, U, W, demanded, extended_at, extended}
use Rattle.square.proofs.Fits.{Fits}
use Rattle.worked.specs.Worked.{elements, extended_values, QuotientIs, PublicIs, left_sums, bare, BareSheet, square_one, square_one_entries, SquareOneHolds, SquareOneFails, square_root, square_root_entries, SquareRootSheet}
use Rattle.worked.proofs.Computed.{by_values}
use Rattle.worked.proofs.Exactly.{quotient_exactly, public_exactly}

-- ── One wire and no row ──

bare_fits : Fits bare
unfolding first log_up
bare_fits = record { some_public = lit≤ tt; public_wires = lit≤ tt; public_rows = lit≤ tt; all_rows = lit≤ tt }

bare_quotient : QuotientIs bare [] (1 ∷ []) (73 ∷ [])
unfolding ℕ_discrete dec_lt sum power root_of_order table value_at product_at first log_up only position dot by_turns others public_kind product_kind kind image replaced U W demanded extended_at extended
bare_quotient =
    quotient_exactly bare bare_fits (lit≤ tt) (position ops97 []) (extended_values bare [] (1 ∷ []))
    (elements (49 ∷ 49 ∷ [])) (elements (49 ∷ 49 ∷ [])) (elements (73 ∷ [])) refl refl refl refl refl refl

bare_public : PublicIs bare (1 ∷ []) (49 ∷ 49 ∷ [])
unfolding ℕ_discrete dec_lt sum power ones root_of_order table value_at first log_up only position dot by_turns others public_kind product_kind kind image replaced U
bare_public =
    public_exactly bare bare_fits (lit≤ tt) (position ops97 []) (elements (1 ∷ [])) (elements (49 ∷ 49 ∷ [])) (elements (49 ∷ 49 ∷ [])) refl refl refl

pub bare_sheet : BareSheet
unfolding ℕ_discrete dec_lt first log_up first_failure failing_row
bare_sheet =
    record { rows = refl; make_granted = refl; quotient_granted = refl; public_granted = refl; quotient = bare_quotient; public = bare_public }

-- ── Wire 1 squared is one ──

square_one_fits : Fits square_one
unfolding first log_up
square_one_fits = record { some_public = lit≤ tt; public_wires = lit≤ tt; public_rows = lit≤ tt; all_rows = lit≤ tt }

square_one_quotient : QuotientIs square_one square_one_entries (1 ∷ 96 ∷ []) (80 ∷ 29 ∷ 72 ∷ [])
unfolding ℕ_discrete dec_lt sum power root_of_order table value_at product_at first log_up only position dot by_turns others public_kind product_kind kind image replaced U W demanded extended_at extended
square_one_quotient =
    quotient_exactly square_one square_one_fits (lit≤ tt) (position ops97 square_one_entries) (extended_values square_one square_one_entries (1 ∷ 96 ∷ []))
    (elements (24 ∷ 62 ∷ 25 ∷ 84 ∷ [])) (elements (74 ∷ 95 ∷ 72 ∷ 51 ∷ [])) (elements (80 ∷ 29 ∷ 72 ∷ [])) refl refl refl refl refl refl

square_one_public : PublicIs square_one (1 ∷ 96 ∷ []) (73 ∷ 73 ∷ 73 ∷ 73 ∷ [])
unfolding ℕ_discrete dec_lt sum power ones root_of_order table value_at first log_up only position dot by_turns others public_kind product_kind kind image replaced U
square_one_public =
    public_exactly square_one square_one_fits (lit≤ tt) (position ops97 []) (elements (1 ∷ 96 ∷ []))
    (elements (49 ∷ 49 ∷ [])) (elements (73 ∷ 73 ∷ 73 ∷ 73 ∷ [])) refl refl refl

pub square_one_holds : SquareOneHolds
unfolding ℕ_discrete dec_lt sum table first log_up only position dot first_failure failing_row by_turns demanded extended_at extended
square_one_holds =
    record {
      rows = refl;
      make_granted = refl;
      extend_granted = refl;
      quotient_granted = refl;
      public_granted = refl;
      extends = by_values _ _ refl;
      quotient = square_one_quotient;
      public = square_one_public;
    }

pub square_one_fails : SquareOneFails
unfolding ℕ_discrete dec_lt sum table first log_up only position dot first_failure failing_row by_turns demanded extended_at extended
square_one_fails = record { extend_granted = refl; quotient_refused = refl; extends = by_values _ _ refl }

-- ── Wire 2 squared is wire 1 ──

square_root_extends : extended_values square_root square_root_entries (1 ∷ 9 ∷ 3 ∷ []) ≡ elements (1 ∷ 9 ∷ 3 ∷ 1 ∷ 0 ∷ 25 ∷ 16 ∷ 0 ∷ [])
unfolding ℕ_discrete dec_lt sum table first log_up only position dot by_turns demanded extended_at extended
square_root_extends = by_values _ _ refl

square_root_left : left_sums square_root square_root_entries (1 ∷ 9 ∷ 3 ∷ []) ≡ elements (1 ∷ 0 ∷ 0 ∷ 6 ∷ 5 ∷ 0 ∷ 4 ∷ 0 ∷ [])
unfolding ℕ_discrete dec_lt sum table first log_up only position dot by_turns others public_kind product_kind kind image replaced U demanded extended_at extended
square_root_left = by_values _ _ refl

pub square_root_sheet : SquareRootSheet
unfolding ℕ_discrete first log_up
square_root_sheet = record { rows = refl; make_granted = refl; extend_granted = refl; extends = square_root_extends; left = square_root_left }
