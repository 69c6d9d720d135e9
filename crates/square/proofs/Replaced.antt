-- Sums in which every public wire j is replaced by p_j - q_j.
use Rattle.std.proofs.Common.{◌≡◌, ℕ, ◌<◌, ◌≤◌, sym, ap, ◌∙◌, ap₂, arith}
use native.Mathlib.Decide.{dec_lt}
use Rattle.field.specs.Operations.{Operations}
use Rattle.field.specs.Laws.{Laws}
use Rattle.field.proofs.Ring.{mul_zero}
use Rattle.transform.proofs.Sums.{sum_ext, sum_none, sum_mul, sum_mul_right, sum_swap}
use Rattle.sheet.specs.Shape.{Shape, columns}
use Rattle.square.specs.Rows.{only, dot}
use Rattle.square.specs.Program.{p_wire, q_wire, image, replaced}
use Rattle.square.proofs.Branches.{if_yes, if_no}
use Rattle.square.proofs.Dots.{only_other, dot_coefficients, dot_minus, dot_one}

-- p_j - q_j is z_j
abbrev pub Paired : {F : Type 0} (O : Operations F) (S : Shape) → (ℕ → F) → Type 0
Paired O S z = (j : ℕ) → j < S.l → O.add (z (p_wire S j)) (O.neg (z (q_wire S j))) ≡ z j

module _ {F : Type 0} {O : Operations F} (L : Laws O) (S : Shape) (within : S.l ≤ S.m) where
  open O use {zero as 𝟘, one as 𝟙, add as ◌⊕◌, mul as ◌⊗◌, neg}
  open S use {m, l}

  infixl 60 ◌⊕◌
  infixl 70 ◌⊗◌
  abbrev M : ℕ
  M = columns S

  image_public : (i w : ℕ) → i < l → image O S i w ≡ only O (p_wire S i) w 𝟙 ⊕ neg (only O (q_wire S i) w 𝟙)
  unfolding image
  image_public i w h = if_yes (dec_lt i l) (only O (p_wire S i) w 𝟙 ⊕ neg (only O (q_wire S i) w 𝟙)) (only O i w 𝟙) h

  image_private : (i w : ℕ) → ¬ (i < l) → image O S i w ≡ only O i w 𝟙
  unfolding image
  image_private i w h = if_no (dec_lt i l) (only O (p_wire S i) w 𝟙 ⊕ neg (only O (q_wire S i) w 𝟙)) (only O i w 𝟙) h

  dot_image : (z : ℕ → F) → Paired O S z → (i : ℕ) → i < m → dot O M (image O S i) z ≡ z i
  dot_image z paired i h =
      elim (dec_lt i l) [
        | yes s ↦ dot_coefficients L M _ _ z (λ w _. image_public i w s)
            ∙ dot_minus L M _ _ z
            ∙ ap₂ (λ a b. a ⊕ neg b) (dot_one L M (p_wire S i) z (omega arith)) (dot_one L M (q_wire S i) z (omega arith))
            ∙ paired i s
        | no s ↦ dot_coefficients L M _ _ z (λ w _. image_private i w s) ∙ dot_one L M i z (omega arith)
      ]

  -- a sum over the sheet's wires keeps its value
  pub dot_replaced : (c z : ℕ → F) → Paired O S z → dot O M (replaced O S c) z ≡ dot O m c z
  dot_replaced c z paired =
      unfold dot replaced in (
      sum_ext L M _ _ (λ w _. sym (sum_mul_right L m (z w) _) ∙ sum_ext L m _ _ (λ i _. L.ring.mul_assoc (c i) (image O S i w) (z w)))
      ∙ sum_swap L M m (λ w i. c i ⊗ (image O S i w ⊗ z w))
      ∙ sum_ext L m _ _ (λ i h. sum_mul L M (c i) _ ∙ ap (λ t. c i ⊗ t) (dot_image z paired i h)))

  -- and has nothing on the public wires
  pub replaced_public : (c : ℕ → F) (j : ℕ) → j < l → replaced O S c j ≡ 𝟘
  unfolding replaced
  replaced_public c j h = sum_none L m _ (λ i k. ap (λ t. c i ⊗ t) (gone i) ∙ mul_zero L.ring (c i))
    where
      gone : (i : ℕ) → image O S i j ≡ 𝟘
      gone i =
          elim (dec_lt i l) [
            | yes s ↦ image_public i j s
                ∙ ap₂ (λ a b. a ⊕ neg b) (only_other L (p_wire S i) j 𝟙 (omega arith)) (only_other L (q_wire S i) j 𝟙 (omega arith))
                ∙ L.ring.add_neg 𝟘
            | no s ↦ image_private i j s ∙ only_other L i j 𝟙 (omega arith)
          ]
