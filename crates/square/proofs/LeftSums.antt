-- The left sums of the square program's rows, by the kind of the row.
use Rattle.std.proofs.Common.{◌≡◌, ℕ, ◌+◌, ◌-◌, ◌*◌, ◌/◌, ◌%◌, ◌<◌, ◌≤◌, ◌≢◌, sym, ap, ◌∙◌, ap₂, div-add-mod', arith}
use native.Mathlib.Decide.{ℕ_discrete, dec_lt}
use Rattle.field.specs.Operations.{Operations}
use Rattle.field.specs.Laws.{Laws}
use Rattle.transform.specs.Polynomial.{coefficient}
use Rattle.sheet.specs.Shape.{Shape, stride, columns}
use Rattle.square.specs.Rows.{dot, row_sum}
use Rattle.square.specs.Program.{Kind, row_minus, row_plus, by_turns, public_kind, product_kind, half, square, U, u_row, extended_at, extended}
use Rattle.square.proofs.Branches.{if_yes, if_no}
use Rattle.square.proofs.Dots.{dot_values, dot_zero}
use Rattle.square.proofs.Fits.{Fits}
use Rattle.square.proofs.Places.{public_cases, kind_multiple, kind_other, others_is}
use Rattle.square.proofs.Replaced.{Paired}
use Rattle.square.proofs.Extended.{extended_plus, extended_minus}
use Rattle.square.proofs.Squares.{u_public_plus, u_public_minus, u_row_minus, u_row_plus, paired_by, same_sum, extended_old, extended_demands}
use Rattle.square.proofs.Pairs.{extended_reads, extended_keeps}

module _ {F : Type 0} {O : Operations F} (L : Laws O) (S : Shape) (fits : Fits S) where
  open O use {zero as 𝟘, one as 𝟙, add as ◌⊕◌, mul as ◌⊗◌, neg}
  open S use {m, l, N}

  infixl 60 ◌⊕◌
  infixl 70 ◌⊗◌
  abbrev M : ℕ
  M = columns S

  -- ── The public rows ──

  module _ (c : (matrix row wire : ℕ) → F) (z : ℕ → F) where
    abbrev at_kind : Kind → F
    at_kind K = dot O M (U O S c K) z

    at_multiple : (t : ℕ) → u_row O S c z (t * stride S) ≡ at_kind (public_kind S t)
    at_multiple t = ap at_kind (kind_multiple S fits t)

    pub left_plus : (t : ℕ) → t < 2 * l → t % 2 ≡ 0 → u_row O S c z (t * stride S) ≡ half O ⊗ (z (t / 2) ⊕ z 0)
    unfolding public_kind by_turns
    left_plus t h e =
        at_multiple t
        ∙ ap at_kind (if_yes (dec_lt t (2 * l)) _ _ h ∙ if_yes (ℕ_discrete (t % 2) 0) _ _ e)
        ∙ u_public_plus L S fits c z (t / 2) (omega arith)

    pub left_minus : (t : ℕ) → t < 2 * l → ¬ (t % 2 ≡ 0) → u_row O S c z (t * stride S) ≡ half O ⊗ (z (t / 2) ⊕ neg (z 0))
    unfolding public_kind by_turns
    left_minus t h e =
        at_multiple t
        ∙ ap at_kind (if_yes (dec_lt t (2 * l)) _ _ h ∙ if_no (ℕ_discrete (t % 2) 0) _ _ e)
        ∙ u_public_minus L S fits c z (t / 2) (omega arith)

    pub left_none : (t : ℕ) → 2 * l ≤ t → u_row O S c z (t * stride S) ≡ 𝟘
    unfolding public_kind U
    left_none t h = at_multiple t ∙ ap at_kind (if_no (dec_lt t (2 * l)) _ _ (λ k. omega arith)) ∙ dot_zero L M z

  -- the values of p and q are the squares that their rows demand
  pub extended_public : (c d : (matrix row wire : ℕ) → F) (v : ℕ → F) (w : ℕ) → m ≤ w → w - m < 2 * l
      → extended_at O S c v w ≡ square O (u_row O S d v ((w - m) * stride S))
  extended_public c d v w h k =
      elim (ℕ_discrete ((w - m) % 2) 0) [
        | yes e ↦ extended_plus O S c v w h k e ∙ ap (square O) (sym (left_plus d v (w - m) k e))
        | no e ↦ extended_minus O S c v w h k e ∙ ap (square O) (sym (left_minus d v (w - m) k e))
      ]

  -- ── At the extended values ──

  module _ (c : (matrix row wire : ℕ) → F) (v : ℕ → F) where
    abbrev z : ℕ → F
    z = coefficient O (extended O S c v)

    -- a public row needs the sheet's values alone, and none of its coefficients
    pub left_public : (d : (matrix row wire : ℕ) → F) (r : ℕ) → r % stride S ≡ 0 → u_row O S c z r ≡ u_row O S d v (r / stride S * stride S)
    left_public d r h =
        let place : r ≡ r / stride S * stride S = omega (arith, div-add-mod' r (stride S)) in
        ap (u_row O S c z) place
        ∙ at_multiple c z (r / stride S)
        ∙ public_cases S (λ K. at_kind c z K ≡ at_kind d v K)
        (λ j k. u_public_plus L S fits c z j k ∙ ap₂ (λ a b. half O ⊗ (a ⊕ b)) (keeps j k) (keeps 0 (omega arith)) ∙ sym (u_public_plus L S fits d v j k))
        (λ j k. u_public_minus L S fits c z j k ∙ ap₂ (λ a b. half O ⊗ (a ⊕ neg b)) (keeps j k) (keeps 0 (omega arith)) ∙ sym (u_public_minus L S fits d v j k))
        (unfold U in (dot_zero L M z ∙ sym (dot_zero L M v)))
        (r / stride S)
        ∙ sym (at_multiple d v (r / stride S))
      where
        keeps : (j : ℕ) → j < l → z j ≡ v j
        keeps j k = extended_keeps L S fits c v j (omega arith)

    -- any other row is known by how many such rows come before it
    pub left_other : (r : ℕ) → r % stride S ≢ 0 → u_row O S c z r ≡ dot O M (U O S c (product_kind S (r - (r / stride S + 1)))) z
    left_other r h = ap (at_kind c z) (kind_other S fits r h ∙ ap (product_kind S) (others_is S fits r h))

    module _ (one : v 0 ≡ 𝟙) where
      abbrev y : ℕ → F
      y = extended_at O S c v

      paired : Paired O S y
      paired =
          let demands = extended_demands L S fits c v in
          paired_by L S fits c y (extended_old L S fits c v 0 (omega arith) ∙ one) demands.p_is demands.q_is

      at_extended : (K : Kind) → at_kind c z K ≡ at_kind c y K
      at_extended K = dot_values L M _ _ _ (extended_reads L S fits c v)

      same : (matrix row : ℕ) → row_sum O S c y matrix row ≡ row_sum O S c v matrix row
      same = same_sum L S fits c v y (extended_old L S fits c v)

      pub left_difference : (x : ℕ) → x < 2 * N → x % 2 ≡ 0
          → dot O M (U O S c (product_kind S x)) z ≡ row_sum O S c v 0 (x / 2) ⊕ neg (row_sum O S c v 1 (x / 2))
      unfolding product_kind by_turns
      left_difference x h e =
          ap (at_kind c z) (if_yes (dec_lt x (2 * N)) _ _ h ∙ if_yes (ℕ_discrete (x % 2) 0) _ _ e)
          ∙ at_extended (row_minus (x / 2))
          ∙ u_row_minus L S fits c y paired (x / 2)
          ∙ ap₂ (λ a b. a ⊕ neg b) (same 0 (x / 2)) (same 1 (x / 2))

      pub left_both : (x : ℕ) → x < 2 * N → ¬ (x % 2 ≡ 0)
          → dot O M (U O S c (product_kind S x)) z ≡ row_sum O S c v 0 (x / 2) ⊕ row_sum O S c v 1 (x / 2)
      unfolding product_kind by_turns
      left_both x h e =
          ap (at_kind c z) (if_yes (dec_lt x (2 * N)) _ _ h ∙ if_no (ℕ_discrete (x % 2) 0) _ _ e)
          ∙ at_extended (row_plus (x / 2))
          ∙ u_row_plus L S fits c y paired (x / 2)
          ∙ ap₂ ◌⊕◌ (same 0 (x / 2)) (same 1 (x / 2))

    pub left_past : (x : ℕ) → 2 * N ≤ x → dot O M (U O S c (product_kind S x)) z ≡ 𝟘
    unfolding product_kind U
    left_past x h = ap (at_kind c z) (if_no (dec_lt x (2 * N)) _ _ (λ k. omega arith)) ∙ dot_zero L M z
