-- The square arithmetic program of a sheet: rows that say that a sum, squared, is another sum.
use Rattle.std.specs.Prelude.{ℕ, zero, suc, ◌+◌, ◌-◌, ◌*◌, ◌/◌, ◌%◌, List}
use Rattle.std.proofs.Math.Decide.{ℕ_discrete, dec_lt}
use Rattle.field.specs.Operations.{Operations, sum}
use Rattle.transform.specs.Polynomial.{table}
use Rattle.sheet.specs.Shape.{Shape, stride, columns}
use Rattle.square.specs.Rows.{when◌then◌else◌, only, dot, row_sum}

-- number t of f 0, g 0, f 1, g 1, ..
unfoldable pub by_turns : {X : Type 0} → (ℕ → X) → (ℕ → X) → ℕ → X
by_turns f g t = when ℕ_discrete (t % 2) 0 then f (t / 2) else g (t / 2)

-- what a row of the square program says
pub data Kind : Type 0 where
  -- of public wire j: ((z_j + z_0)/2)² = p_j, and ((z_j - z_0)/2)² = q_j
  public_plus public_minus : ℕ → Kind
  -- of product row i: (a - b)² = s_i, and (a + b)² = 4 c + s_i
  row_minus row_plus : ℕ → Kind
  -- nothing: both sides are empty
  empty : Kind

module _ (S : Shape) where
  open S use {m, l, N}

  -- the wires are the sheet's m, then p_0, q_0, p_1, q_1, .., then s_0, s_1, ..
  abbrev pub p_wire : ℕ → ℕ
  p_wire j = m + 2 * j

  abbrev pub q_wire : ℕ → ℕ
  q_wire j = m + 2 * j + 1

  abbrev pub s_wire : ℕ → ℕ
  s_wire i = m + 2 * l + i

  -- how many rows before r are no multiple of the stride
  unfoldable pub others : ℕ → ℕ
  others zero = 0
  others (suc r) = when ℕ_discrete (r % stride S) 0 then others r else suc (others r)

  -- of multiple number t of the stride
  unfoldable pub public_kind : ℕ → Kind
  public_kind t = when dec_lt t (2 * l) then by_turns public_plus public_minus t else empty

  -- of number x among the other rows
  unfoldable pub product_kind : ℕ → Kind
  product_kind x = when dec_lt x (2 * N) then by_turns row_minus row_plus x else empty

  -- of row r
  unfoldable pub kind : ℕ → Kind
  kind r = when ℕ_discrete (r % stride S) 0 then public_kind (r / stride S) else product_kind (others r)

module _ {F : Type 0} (O : Operations F) where
  open O use {one as 𝟙, add as ◌⊕◌, mul as ◌⊗◌, inverse}

  infixl 60 ◌⊕◌
  infixl 70 ◌⊗◌
  abbrev pub half : F
  half = inverse (𝟙 ⊕ 𝟙)

  abbrev pub four : F
  four = (𝟙 ⊕ 𝟙) ⊗ (𝟙 ⊕ 𝟙)

  abbrev pub square : F → F
  square x = x ⊗ x

module _ {F : Type 0} (O : Operations F) (S : Shape) where
  open O use {one as 𝟙, add as ◌⊕◌, mul as ◌⊗◌, neg}
  open S use {m, l}

  infixl 60 ◌⊕◌
  infixl 70 ◌⊗◌
  -- what stands for wire i in product rows: p_i - q_i if it is public, wire 0 included, else itself
  unfoldable pub image : ℕ → ℕ → F
  image i w = when dec_lt i l then only O (p_wire S i) w 𝟙 ⊕ neg (only O (q_wire S i) w 𝟙) else only O i w 𝟙

  -- a sum over the sheet's wires with each wire so replaced
  unfoldable pub replaced : (ℕ → F) → ℕ → F
  replaced c w = sum O m (λ i. c i ⊗ image i w)

module _ {F : Type 0} (O : Operations F) (S : Shape) (c : (matrix row wire : ℕ) → F) where
  open O use {zero as 𝟘, one as 𝟙, add as ◌⊕◌, mul as ◌⊗◌, neg}
  open S use {m, l}

  infixl 60 ◌⊕◌
  infixl 70 ◌⊗◌
  -- the coefficients of the sum that is squared
  unfoldable pub U : Kind → ℕ → F
  U (public_plus j) w = only O j w (half O) ⊕ only O 0 w (half O)
  U (public_minus j) w = only O j w (half O) ⊕ neg (only O 0 w (half O))
  U (row_minus i) w = replaced O S (λ v. c 0 i v ⊕ neg (c 1 i v)) w
  U (row_plus i) w = replaced O S (λ v. c 0 i v ⊕ c 1 i v) w
  U empty w = 𝟘

  -- and of the sum that the square is to be
  unfoldable pub W : Kind → ℕ → F
  W (public_plus j) w = only O (p_wire S j) w 𝟙
  W (public_minus j) w = only O (q_wire S j) w 𝟙
  W (row_minus i) w = only O (s_wire S i) w 𝟙
  W (row_plus i) w = four O ⊗ replaced O S (c 2 i) w ⊕ only O (s_wire S i) w 𝟙
  W empty w = 𝟘

  -- the two sums of row r, at the values z
  abbrev pub u_row : (ℕ → F) → ℕ → F
  u_row z r = dot O (columns S) (U (kind S r)) z

  abbrev pub w_row : (ℕ → F) → ℕ → F
  w_row z r = dot O (columns S) (W (kind S r)) z

  -- p_0, q_0, p_1, .., then s_0, s_1, ..: what their rows demand at the sheet's values v
  unfoldable pub demanded : (ℕ → F) → ℕ → F
  demanded v t =
      when dec_lt t (2 * l)
      then by_turns (λ j. square O (half O ⊗ (v j ⊕ v 0))) (λ j. square O (half O ⊗ (v j ⊕ neg (v 0)))) t
      else square O (row_sum O S c v 0 (t - 2 * l) ⊕ neg (row_sum O S c v 1 (t - 2 * l)))

  -- the value of every wire of the square program: the sheet's, then those
  unfoldable pub extended_at : (ℕ → F) → ℕ → F
  extended_at v w = when dec_lt w m then v w else demanded v (w - m)

  unfoldable pub extended : (ℕ → F) → List F
  extended v = table (columns S) (extended_at v)
