-- The sides of each kind of row, as combinations.
use Rattle.std.proofs.Common.{◌≡◌, ℕ, sym, refl, ap, ◌∙◌, ap₂}
use native.Mathlib.Decide.{ℕ_discrete}
use Rattle.field.specs.Operations.{Operations}
use Rattle.field.specs.Laws.{Laws}
use Rattle.field.proofs.Ring.{zero_add, neg_zero}
use Rattle.field.proofs.Solve.{⓪, ①, ◌⊞◌, ◌⊠◌, ◌⊟◌, ∸◌, ◌≈◌, by_ring}
use Rattle.sheet.specs.Shape.{Shape}
use Rattle.square.specs.Rows.{when◌then◌else◌, only}
use Rattle.square.specs.Program.{public_plus, public_minus, row_minus, row_plus, empty, p_wire, q_wire, s_wire, half, four, replaced, U, W}
use Rattle.square.proofs.Dots.{only_zero}
use Rattle.square_rows.specs.declared.combination.Combination.{Combination}
use Rattle.square_rows.specs.Combined.{own, weighted, combined}
use Rattle.square_rows.proofs.Weighted.{replaced_ext, replaced_zero, replaced_mul}

module _ {F : Type 0} {O : Operations F} (L : Laws O) where
  open O use {zero as 𝟘, one as 𝟙, add as ◌⊕◌, mul as ◌⊗◌, neg}

  infixl 60 ◌⊕◌
  infixl 70 ◌⊗◌
  only_neg : (i j : ℕ) (x : F) → only O i j (neg x) ≡ neg (only O i j x)
  unfolding only
  only_neg i j x = go (ℕ_discrete i j)
    where
      go : (d : Dec (i ≡ j)) → (when d then neg x else 𝟘) ≡ neg (when d then x else 𝟘)
      go (yes _) = refl
      go (no _) = sym (neg_zero L.ring)

  pub only_none : (i j : ℕ) (x : F) → x ≡ 𝟘 → only O i j x ≡ 𝟘
  only_none i j x e = ap (only O i j) e ∙ only_zero L i j

  module _ (S : Shape) (c : ℕ → ℕ → ℕ → F) (w : ℕ) where
    pub terms_alone : (k : Combination F) → k.a ≡ 𝟘 → k.b ≡ 𝟘 → k.c ≡ 𝟘
        → combined O S c k w ≡ only O k.first.wire w k.first.coefficient ⊕ only O k.second.wire w k.second.coefficient
    unfolding own weighted
    terms_alone k ea eb ec =
        ap (λ t. own O k w ⊕ t)
        (replaced_ext L S _ _ w
        (λ v. ap₂ ◌⊕◌ (ap₂ ◌⊕◌ (ap (λ t. t ⊗ c 0 k.row v) ea) (ap (λ t. t ⊗ c 1 k.row v) eb)) (ap (λ t. t ⊗ c 2 k.row v) ec)
        ∙ by_ring L.ring 3 (λ x y z. ⓪ ⊠ x ⊞ ⓪ ⊠ y ⊞ ⓪ ⊠ z ≈ ⓪) refl (c 0 k.row v) (c 1 k.row v) (c 2 k.row v))
        ∙ replaced_zero L S w)
        ∙ L.ring.add_zero _

    pub row_alone : (k : Combination F) → k.second.coefficient ≡ 𝟘
        → combined O S c k w ≡ only O k.first.wire w k.first.coefficient ⊕ replaced O S (λ v. k.a ⊗ c 0 k.row v ⊕ k.b ⊗ c 1 k.row v ⊕ k.c ⊗ c 2 k.row v) w
    unfolding own weighted
    row_alone k e =
        ap (λ t. only O k.first.wire w k.first.coefficient ⊕ t ⊕ weighted O S c k w) (only_none k.second.wire w k.second.coefficient e)
        ∙ ap (λ t. t ⊕ weighted O S c k w) (L.ring.add_zero _)

    pub left_plus : (j : ℕ) (x y : F) → x ≡ half O → y ≡ half O → only O j w x ⊕ only O 0 w y ≡ U O S c (public_plus j) w
    unfolding U
    left_plus j x y e f = ap₂ (λ s t. only O j w s ⊕ only O 0 w t) e f

    pub left_minus : (j : ℕ) (x y : F) → x ≡ half O → y ≡ neg (half O) → only O j w x ⊕ only O 0 w y ≡ U O S c (public_minus j) w
    unfolding U
    left_minus j x y e f = ap₂ (λ s t. only O j w s ⊕ only O 0 w t) e f ∙ ap (λ t. only O j w (half O) ⊕ t) (only_neg 0 w (half O))

    pub left_difference : (i : ℕ) (none a b d : F) → none ≡ 𝟘 → a ≡ 𝟙 → b ≡ neg 𝟙 → d ≡ 𝟘
        → none ⊕ replaced O S (λ v. a ⊗ c 0 i v ⊕ b ⊗ c 1 i v ⊕ d ⊗ c 2 i v) w ≡ U O S c (row_minus i) w
    unfolding U
    left_difference i none a b d e ea eb ed =
        ap (λ t. t ⊕ replaced O S (λ v. a ⊗ c 0 i v ⊕ b ⊗ c 1 i v ⊕ d ⊗ c 2 i v) w) e
        ∙ zero_add L.ring _
        ∙ replaced_ext L S _ _ w
        (λ v. ap₂ ◌⊕◌ (ap₂ ◌⊕◌ (ap (λ t. t ⊗ c 0 i v) ea) (ap (λ t. t ⊗ c 1 i v) eb)) (ap (λ t. t ⊗ c 2 i v) ed)
        ∙ by_ring L.ring 3 (λ x y z. ① ⊠ x ⊞ ∸ ① ⊠ y ⊞ ⓪ ⊠ z ≈ x ⊟ y) refl (c 0 i v) (c 1 i v) (c 2 i v))

    pub left_sum : (i : ℕ) (none a b d : F) → none ≡ 𝟘 → a ≡ 𝟙 → b ≡ 𝟙 → d ≡ 𝟘
        → none ⊕ replaced O S (λ v. a ⊗ c 0 i v ⊕ b ⊗ c 1 i v ⊕ d ⊗ c 2 i v) w ≡ U O S c (row_plus i) w
    unfolding U
    left_sum i none a b d e ea eb ed =
        ap (λ t. t ⊕ replaced O S (λ v. a ⊗ c 0 i v ⊕ b ⊗ c 1 i v ⊕ d ⊗ c 2 i v) w) e
        ∙ zero_add L.ring _
        ∙ replaced_ext L S _ _ w
        (λ v. ap₂ ◌⊕◌ (ap₂ ◌⊕◌ (ap (λ t. t ⊗ c 0 i v) ea) (ap (λ t. t ⊗ c 1 i v) eb)) (ap (λ t. t ⊗ c 2 i v) ed)
        ∙ by_ring L.ring 3 (λ x y z. ① ⊠ x ⊞ ① ⊠ y ⊞ ⓪ ⊠ z ≈ x ⊞ y) refl (c 0 i v) (c 1 i v) (c 2 i v))

    pub left_empty : (x y : F) → x ≡ 𝟘 → y ≡ 𝟘 → x ⊕ y ≡ U O S c empty w
    unfolding U
    left_empty x y e f = ap₂ ◌⊕◌ e f ∙ L.ring.add_zero 𝟘

    -- one wire alone
    lone : (v i : ℕ) (x y : F) → v ≡ i → x ≡ 𝟙 → y ≡ 𝟘 → only O v w x ⊕ y ≡ only O i w 𝟙
    lone v i x y h e f = ap₂ (λ s t. only O v w s ⊕ t) e f ∙ L.ring.add_zero _ ∙ ap (λ t. only O t w 𝟙) h

    pub right_plus : (j v : ℕ) (x y : F) → v ≡ p_wire S j → x ≡ 𝟙 → y ≡ 𝟘 → only O v w x ⊕ y ≡ W O S c (public_plus j) w
    unfolding W
    right_plus j v x y = lone v (p_wire S j) x y

    pub right_minus : (j v : ℕ) (x y : F) → v ≡ q_wire S j → x ≡ 𝟙 → y ≡ 𝟘 → only O v w x ⊕ y ≡ W O S c (public_minus j) w
    unfolding W
    right_minus j v x y = lone v (q_wire S j) x y

    pub right_square : (i v : ℕ) (x y : F) → v ≡ s_wire S i → x ≡ 𝟙 → y ≡ 𝟘 → only O v w x ⊕ y ≡ W O S c (row_minus i) w
    unfolding W
    right_square i v x y = lone v (s_wire S i) x y

    pub right_product : (i v : ℕ) (x a b d : F) → v ≡ s_wire S i → x ≡ 𝟙 → a ≡ 𝟘 → b ≡ 𝟘 → d ≡ four O
        → only O v w x ⊕ replaced O S (λ v. a ⊗ c 0 i v ⊕ b ⊗ c 1 i v ⊕ d ⊗ c 2 i v) w ≡ W O S c (row_plus i) w
    unfolding W
    right_product i v x a b d h e ea eb ed =
        ap₂ (λ s t. only O v w s ⊕ t) e
        (replaced_ext L S _ _ w
        (λ v. ap₂ ◌⊕◌ (ap₂ ◌⊕◌ (ap (λ t. t ⊗ c 0 i v) ea) (ap (λ t. t ⊗ c 1 i v) eb)) (ap (λ t. t ⊗ c 2 i v) ed)
        ∙ by_ring L.ring 4 (λ x y z q. ⓪ ⊠ x ⊞ ⓪ ⊠ y ⊞ q ⊠ z ≈ q ⊠ z) refl (c 0 i v) (c 1 i v) (c 2 i v) (four O))
        ∙ replaced_mul L S (four O) (c 2 i) w)
        ∙ ap (λ t. only O t w 𝟙 ⊕ four O ⊗ replaced O S (c 2 i) w) h
        ∙ L.ring.add_comm _ _

    pub right_empty : (x y : F) → x ≡ 𝟘 → y ≡ 𝟘 → x ⊕ y ≡ W O S c empty w
    unfolding W
    right_empty x y e f = ap₂ ◌⊕◌ e f ∙ L.ring.add_zero 𝟘
