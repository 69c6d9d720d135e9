-- The sides of each kind of row as the records that are made for them.
use Rattle.std.proofs.Common.{◌≡◌, ℕ, refl, ◌∙◌}
use Rattle.field.specs.Operations.{Operations}
use Rattle.field.specs.Laws.{Laws}
use Rattle.sheet.specs.Shape.{Shape}
use Rattle.square.specs.Rows.{only}
use Rattle.square.specs.Program.{public_plus, public_minus, row_minus, row_plus, empty, p_wire, q_wire, s_wire, half, four, U, W}
use Rattle.square.proofs.Dots.{only_zero}
use Rattle.square_rows.specs.Combined.{term, no_term, of_row, of_terms, combined}
use Rattle.square_rows.proofs.Sides as side

module _ {F : Type 0} {O : Operations F} (L : Laws O) (S : Shape) (c : ℕ → ℕ → ℕ → F) (w : ℕ) where
  open O use {zero as 𝟘, one as 𝟙, neg}

  none : only O 0 w 𝟘 ≡ 𝟘
  none = only_zero L 0 w

  -- ── The sum that is squared ──

  pub left_plus : (j : ℕ) → combined O S c (of_terms O (term O j (half O)) (term O 0 (half O))) w ≡ U O S c (public_plus j) w
  left_plus j = side.terms_alone L S c w _ refl refl refl ∙ side.left_plus L S c w j _ _ refl refl

  pub left_minus : (j : ℕ) → combined O S c (of_terms O (term O j (half O)) (term O 0 (neg (half O)))) w ≡ U O S c (public_minus j) w
  left_minus j = side.terms_alone L S c w _ refl refl refl ∙ side.left_minus L S c w j _ _ refl refl

  pub left_difference : (i : ℕ) → combined O S c (of_row O (no_term O) i 𝟙 (neg 𝟙) 𝟘) w ≡ U O S c (row_minus i) w
  left_difference i = side.row_alone L S c w _ refl ∙ side.left_difference L S c w i _ _ _ _ none refl refl refl

  pub left_sum : (i : ℕ) → combined O S c (of_row O (no_term O) i 𝟙 𝟙 𝟘) w ≡ U O S c (row_plus i) w
  left_sum i = side.row_alone L S c w _ refl ∙ side.left_sum L S c w i _ _ _ _ none refl refl refl

  pub left_empty : combined O S c (of_terms O (no_term O) (no_term O)) w ≡ U O S c empty w
  left_empty = side.terms_alone L S c w _ refl refl refl ∙ side.left_empty L S c w _ _ none none

  -- ── The sum that its square is to be ──

  pub right_plus : (j : ℕ) → combined O S c (of_terms O (term O (p_wire S j) 𝟙) (no_term O)) w ≡ W O S c (public_plus j) w
  right_plus j = side.terms_alone L S c w _ refl refl refl ∙ side.right_plus L S c w j _ _ _ refl refl none

  pub right_minus : (j : ℕ) → combined O S c (of_terms O (term O (q_wire S j) 𝟙) (no_term O)) w ≡ W O S c (public_minus j) w
  right_minus j = side.terms_alone L S c w _ refl refl refl ∙ side.right_minus L S c w j _ _ _ refl refl none

  pub right_square : (i : ℕ) → combined O S c (of_terms O (term O (s_wire S i) 𝟙) (no_term O)) w ≡ W O S c (row_minus i) w
  right_square i = side.terms_alone L S c w _ refl refl refl ∙ side.right_square L S c w i _ _ _ refl refl none

  pub right_product : (i : ℕ) → combined O S c (of_row O (term O (s_wire S i) 𝟙) i 𝟘 𝟘 (four O)) w ≡ W O S c (row_plus i) w
  right_product i = side.row_alone L S c w _ refl ∙ side.right_product L S c w i _ _ _ _ _ refl refl refl refl refl

  pub right_empty : combined O S c (of_terms O (no_term O) (no_term O)) w ≡ W O S c empty w
  right_empty = side.terms_alone L S c w _ refl refl refl ∙ side.right_empty L S c w _ _ none none
