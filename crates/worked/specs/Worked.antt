-- Sheets and elements worked out: what the definitions that the calls' contracts cite come to, in numbers.
use Rattle.std.specs.Prelude.{◌≡◌, ℕ, ◌<◌, ◌≤◌, List, [], ◌∷◌, ◌++◌, map, Some, None}
use Rattle.field.specs.Operations.{Operations, root_of_order}
use Rattle.modular.specs.Field97.{F97, element97, ops97}
use Rattle.quadratic.specs.Doubled.{pair, doubled}
use Rattle.quadratic.specs.declared.quadratic.Quadratic.{Quadratic}
use Rattle.modular.specs.Field12289.{element12289, ops12289}
use Rattle.transform.specs.Polynomial.{table, coefficient}
use Rattle.sheet.specs.Shape.{Shape, n}
use Rattle.sheet.specs.Rules.{make_due}
use Rattle.sheet.specs.Outcomes.{shape, entry}
use Rattle.sheet.specs.declared.entry.Entry.{Entry}
use Rattle.square.specs.Rows.{position}
use Rattle.square.specs.Program.{u_row, extended}
use Rattle.square.specs.Polynomials.{QuotientOf, PublicOf}
use Rattle.square.specs.Rules.{extend_due, quotient_due, public_due}

-- the elements of the field of 97 that these numbers stand for
abbrev pub elements : List ℕ → List F97
elements = map element97

-- xs, and no other list, is so
abbrev pub Exactly : (List F97 → Type 0) → List F97 → Type 0
Exactly P xs = P xs × ((ys : List F97) → P ys → ys ≡ xs)

-- ── Sheets over the field of 97 elements ──

-- a sheet of the shape S, with these entries and values
module _ (S : Shape) (entries : List (Entry F97)) (values : List ℕ) where
  abbrev pub extended_values : List F97
  extended_values = extended ops97 S (position ops97 entries) (coefficient ops97 (elements values))

  abbrev pub QuotientIs : List ℕ → Type 0
  QuotientIs h = Exactly (QuotientOf ops97 S (position ops97 entries) extended_values) (elements h)

  -- the row sums that are squared, at the extended values
  abbrev pub left_sums : List F97
  left_sums = table (n S) (u_row ops97 S (position ops97 entries) (coefficient ops97 extended_values))

-- no entry counts in the public rows
abbrev pub PublicIs : Shape → (values q : List ℕ) → Type 0
PublicIs S values q = Exactly (PublicOf ops97 S (position ops97 []) (elements values)) (elements q)

-- one wire and no row
abbrev pub bare : Shape
bare = shape 1 1 0

-- the calls are handed what they ask for: 2048 places for entries, m for values, n - 1 for the quotient and M + 4 n to work in, n for the public polynomial
pub record BareSheet : Type 0 where
  pub rows : n bare ≡ 2
  pub make_granted : make_due ops97 bare 1 ≡ None
  pub quotient_granted : quotient_due ops97 bare 2048 1 1 11 [] (elements (1 ∷ [])) ≡ None
  pub public_granted : public_due ops97 bare 1 2 (elements (1 ∷ [])) ≡ None
  pub quotient : QuotientIs bare [] (1 ∷ []) (73 ∷ [])
  pub public : PublicIs bare (1 ∷ []) (49 ∷ 49 ∷ [])

-- one row: wire 1 times wire 1 is wire 0
abbrev pub square_one : Shape
square_one = shape 2 1 1

abbrev pub square_one_entries : List (Entry F97)
square_one_entries = entry 0 0 1 (element97 1) ∷ entry 1 0 1 (element97 1) ∷ entry 2 0 0 (element97 1) ∷ []

-- the square of 96 is 1
pub record SquareOneHolds : Type 0 where
  pub rows : n square_one ≡ 4
  pub make_granted : make_due ops97 square_one 2 ≡ None
  pub extend_granted : extend_due ops97 square_one 2048 2 5 square_one_entries (elements (1 ∷ 96 ∷ [])) ≡ None
  pub quotient_granted : quotient_due ops97 square_one 2048 2 3 21 square_one_entries (elements (1 ∷ 96 ∷ [])) ≡ None
  pub public_granted : public_due ops97 square_one 2 4 (elements (1 ∷ 96 ∷ [])) ≡ None
  pub extends : extended_values square_one square_one_entries (1 ∷ 96 ∷ []) ≡ elements (1 ∷ 96 ∷ 1 ∷ 0 ∷ 0 ∷ [])
  pub quotient : QuotientIs square_one square_one_entries (1 ∷ 96 ∷ []) (80 ∷ 29 ∷ 72 ∷ [])
  pub public : PublicIs square_one (1 ∷ 96 ∷ []) (73 ∷ 73 ∷ 73 ∷ 73 ∷ [])

-- the square of 5 is not: row 0 fails
pub record SquareOneFails : Type 0 where
  pub extend_granted : extend_due ops97 square_one 2048 2 5 square_one_entries (elements (1 ∷ 5 ∷ [])) ≡ None
  pub quotient_refused : quotient_due ops97 square_one 2048 2 3 21 square_one_entries (elements (1 ∷ 5 ∷ [])) ≡ Some (7, 0)
  pub extends : extended_values square_one square_one_entries (1 ∷ 5 ∷ []) ≡ elements (1 ∷ 5 ∷ 1 ∷ 0 ∷ 0 ∷ [])

-- two public wires and one row: wire 2 times wire 2 is wire 1
abbrev pub square_root : Shape
square_root = shape 3 2 1

abbrev pub square_root_entries : List (Entry F97)
square_root_entries = entry 0 0 2 (element97 1) ∷ entry 1 0 2 (element97 1) ∷ entry 2 0 1 (element97 1) ∷ []

-- 3 is a square root of 9
pub record SquareRootSheet : Type 0 where
  pub rows : n square_root ≡ 8
  pub make_granted : make_due ops97 square_root 3 ≡ None
  pub extend_granted : extend_due ops97 square_root 2048 3 8 square_root_entries (elements (1 ∷ 9 ∷ 3 ∷ [])) ≡ None
  pub extends : extended_values square_root square_root_entries (1 ∷ 9 ∷ 3 ∷ []) ≡ elements (1 ∷ 9 ∷ 3 ∷ 1 ∷ 0 ∷ 25 ∷ 16 ∷ 0 ∷ [])
  pub left : left_sums square_root square_root_entries (1 ∷ 9 ∷ 3 ∷ []) ≡ elements (1 ∷ 0 ∷ 0 ∷ 6 ∷ 5 ∷ 0 ∷ 4 ∷ 0 ∷ [])

-- 50 and then 48 on one position, whatever was entered before, make every coefficient what 1 there makes it
abbrev pub EntriesAdd : Type 0
EntriesAdd =
    (es : List (Entry F97)) (a i j : ℕ) (matrix row wire : ℕ)
    → position ops97 (es ++ entry a i j (element97 50) ∷ entry a i j (element97 48) ∷ []) matrix row wire
    ≡ position ops97 (es ++ entry a i j (element97 1) ∷ []) matrix row wire

-- ── The fields ──

-- a + bθ in the quadratic extension of the field of 97
abbrev pub with_θ : ℕ → ℕ → Quadratic F97
with_θ a b = pair (element97 a) (element97 b)

abbrev pub θ : Quadratic F97
θ = with_θ 0 1

-- root(e) is x
abbrev pub RootIs : {F : Type 0} → Operations F → ℕ → F → Type 0
RootIs O e x = (e ≤ O.adicity) × (root_of_order O e ≡ x)

-- x has an inverse, and it is y
abbrev pub InverseIs : {F : Type 0} → Operations F → F → F → Type 0
InverseIs O x y = (¬ (x ≡ O.zero)) × (O.inverse x ≡ y)

pub record WorkedFields : Type 0 where
  pub root_5 : RootIs ops97 5 (element97 28)
  -- root(6) is absent, but present in the extension
  pub no_root_6 : ops97.adicity < 6
  pub root_6 : RootIs (doubled ops97) 6 θ
  pub square : (doubled ops97).mul (with_θ 1 1) (with_θ 1 1) ≡ with_θ 29 2
  pub θ_inverse : InverseIs (doubled ops97) θ (with_θ 0 52)
  pub inverse_11 : InverseIs ops12289 (element12289 11) (element12289 5586)

pub record WorkedSheets : Type 0 where
  pub bare_sheet : BareSheet
  pub square_one_holds : SquareOneHolds
  pub square_one_fails : SquareOneFails
  pub square_root_sheet : SquareRootSheet
  pub entries_add : EntriesAdd
  pub fields : WorkedFields
