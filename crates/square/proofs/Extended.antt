-- The values of the square program's wires, by the kind of the wire.
use Rattle.std.proofs.Common.{◌≡◌, ℕ, ◌-◌, ◌*◌, ◌/◌, ◌%◌, ◌<◌, ◌≤◌, ◌∙◌, arith}
use native.Mathlib.Decide.{ℕ_discrete, dec_lt}
use Rattle.field.specs.Operations.{Operations}
use Rattle.sheet.specs.Shape.{Shape}
use Rattle.square.specs.Rows.{row_sum}
use Rattle.square.specs.Program.{by_turns, half, square, demanded, extended_at}
use Rattle.square.proofs.Branches.{if_yes, if_no}

module _ {F : Type 0} (O : Operations F) (S : Shape) (c : (matrix row wire : ℕ) → F) (v : ℕ → F) (w : ℕ) where
  open O use {add as ◌⊕◌, mul as ◌⊗◌, neg}
  open S use {m, l}

  infixl 60 ◌⊕◌
  infixl 70 ◌⊗◌
  -- number of the wire among those after the sheet's
  abbrev t : ℕ
  t = w - m

  pub extended_own : w < m → extended_at O S c v w ≡ v w
  unfolding extended_at
  extended_own h = if_yes (dec_lt w m) _ _ h

  past : m ≤ w → extended_at O S c v w ≡ demanded O S c v t
  unfolding extended_at
  past h = if_no (dec_lt w m) _ _ (λ k. omega arith)

  pub extended_plus : m ≤ w → t < 2 * l → t % 2 ≡ 0 → extended_at O S c v w ≡ square O (half O ⊗ (v (t / 2) ⊕ v 0))
  unfolding demanded by_turns
  extended_plus h k e = past h ∙ if_yes (dec_lt t (2 * l)) _ _ k ∙ if_yes (ℕ_discrete (t % 2) 0) _ _ e

  pub extended_minus : m ≤ w → t < 2 * l → ¬ (t % 2 ≡ 0) → extended_at O S c v w ≡ square O (half O ⊗ (v (t / 2) ⊕ neg (v 0)))
  unfolding demanded by_turns
  extended_minus h k e = past h ∙ if_yes (dec_lt t (2 * l)) _ _ k ∙ if_no (ℕ_discrete (t % 2) 0) _ _ e

  pub extended_row : m ≤ w → 2 * l ≤ t → extended_at O S c v w ≡ square O (row_sum O S c v 0 (t - 2 * l) ⊕ neg (row_sum O S c v 1 (t - 2 * l)))
  unfolding demanded
  extended_row h k = past h ∙ if_no (dec_lt t (2 * l)) _ _ (λ j. omega arith)
