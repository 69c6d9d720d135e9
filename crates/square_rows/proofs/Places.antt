-- The kind of a row from its number.
use Rattle.std.proofs.Common.{◌≡◌, ℕ, ◌+◌, ◌-◌, ◌*◌, ◌/◌, ◌%◌, ◌<◌, ◌≤◌, ◌≢◌, ap, ◌∙◌, div-add-mod', arith}
use native.Mathlib.Decide.{ℕ_discrete, dec_lt}
use Rattle.sheet.specs.Shape.{Shape, stride}
use Rattle.square.specs.Program.{public_plus, public_minus, row_minus, row_plus, empty, by_turns, public_kind, product_kind, kind}
use Rattle.square.proofs.Branches.{if_yes, if_no}
use Rattle.square.proofs.Fits.{Fits}
use Rattle.square.proofs.Places.{kind_multiple, kind_other, others_is}

module _ (S : Shape) where
  open S use {l, N}

  pub multiple_past : (t : ℕ) → 2 * l ≤ t → public_kind S t ≡ empty
  unfolding public_kind
  multiple_past t h = if_no (dec_lt t (2 * l)) _ _ (λ k. omega arith)

  pub multiple_even : (t : ℕ) → t < 2 * l → t % 2 ≡ 0 → public_kind S t ≡ public_plus (t / 2)
  unfolding public_kind by_turns
  multiple_even t h e = if_yes (dec_lt t (2 * l)) _ _ h ∙ if_yes (ℕ_discrete (t % 2) 0) _ _ e

  pub multiple_odd : (t : ℕ) → t < 2 * l → t % 2 ≢ 0 → public_kind S t ≡ public_minus (t / 2)
  unfolding public_kind by_turns
  multiple_odd t h e = if_yes (dec_lt t (2 * l)) _ _ h ∙ if_no (ℕ_discrete (t % 2) 0) _ _ e

  pub other_past : (x : ℕ) → 2 * N ≤ x → product_kind S x ≡ empty
  unfolding product_kind
  other_past x h = if_no (dec_lt x (2 * N)) _ _ (λ k. omega arith)

  pub other_even : (x : ℕ) → x < 2 * N → x % 2 ≡ 0 → product_kind S x ≡ row_minus (x / 2)
  unfolding product_kind by_turns
  other_even x h e = if_yes (dec_lt x (2 * N)) _ _ h ∙ if_yes (ℕ_discrete (x % 2) 0) _ _ e

  pub other_odd : (x : ℕ) → x < 2 * N → x % 2 ≢ 0 → product_kind S x ≡ row_plus (x / 2)
  unfolding product_kind by_turns
  other_odd x h e = if_yes (dec_lt x (2 * N)) _ _ h ∙ if_no (ℕ_discrete (x % 2) 0) _ _ e

  module _ (fits : Fits S) (r : ℕ) where
    pub at_multiple : r % stride S ≡ 0 → kind S r ≡ public_kind S (r / stride S)
    at_multiple h =
        let place : r ≡ r / stride S * stride S = omega (arith, div-add-mod' r (stride S)) in
        ap (kind S) place ∙ kind_multiple S fits (r / stride S)

    pub at_other : r % stride S ≢ 0 → kind S r ≡ product_kind S (r - (r / stride S + 1))
    at_other h = kind_other S fits r h ∙ ap (product_kind S) (others_is S fits r h)
