-- Sums of coefficients times values.
use Rattle.std.proofs.Common.{◌≡◌, ℕ, ◌<◌, ◌≢◌, sym, refl, ap, ◌∙◌}
use native.Mathlib.Decide.{ℕ_discrete}
use Rattle.field.specs.Operations.{Operations}
use Rattle.field.specs.Laws.{Laws}
use Rattle.field.proofs.Ring.{one_mul, zero_mul, add_mul, neg_mul}
use Rattle.transform.proofs.Sums.{sum_ext, sum_none, sum_add, sum_neg, sum_mul, sum_one}
use Rattle.square.specs.Rows.{when◌then◌else◌, only, dot}
use Rattle.square.proofs.Branches.{if_yes, if_no, if_cases}

module _ {F : Type 0} {O : Operations F} (L : Laws O) where
  open O use {zero as 𝟘, one as 𝟙, add as ◌⊕◌, mul as ◌⊗◌, neg}

  infixl 60 ◌⊕◌
  infixl 70 ◌⊗◌
  pub only_same : (i j : ℕ) (x : F) → i ≡ j → only O i j x ≡ x
  unfolding only
  only_same i j x h = if_yes (ℕ_discrete i j) x 𝟘 h

  pub only_other : (i j : ℕ) (x : F) → i ≢ j → only O i j x ≡ 𝟘
  unfolding only
  only_other i j x h = if_no (ℕ_discrete i j) x 𝟘 h

  pub only_zero : (i j : ℕ) → only O i j 𝟘 ≡ 𝟘
  unfolding only
  only_zero i j = if_cases (λ t. t ≡ 𝟘) (ℕ_discrete i j) 𝟘 𝟘 (λ _. refl) (λ _. refl)

  module _ (n : ℕ) where
    pub dot_coefficients : (c d z : ℕ → F) → ((w : ℕ) → w < n → c w ≡ d w) → dot O n c z ≡ dot O n d z
    unfolding dot
    dot_coefficients c d z h = sum_ext L n _ _ (λ w l. ap (λ t. t ⊗ z w) (h w l))

    pub dot_values : (c z y : ℕ → F) → ((w : ℕ) → w < n → z w ≡ y w) → dot O n c z ≡ dot O n c y
    unfolding dot
    dot_values c z y h = sum_ext L n _ _ (λ w l. ap (λ t. c w ⊗ t) (h w l))

    pub dot_zero : (z : ℕ → F) → dot O n (λ _. 𝟘) z ≡ 𝟘
    unfolding dot
    dot_zero z = sum_none L n _ (λ w _. zero_mul L.ring (z w))

    pub dot_add : (c d z : ℕ → F) → dot O n (λ w. c w ⊕ d w) z ≡ dot O n c z ⊕ dot O n d z
    unfolding dot
    dot_add c d z = sum_ext L n _ _ (λ w _. add_mul L.ring (c w) (d w) (z w)) ∙ sum_add L n _ _

    pub dot_neg : (c z : ℕ → F) → dot O n (λ w. neg (c w)) z ≡ neg (dot O n c z)
    unfolding dot
    dot_neg c z = sum_ext L n _ _ (λ w _. neg_mul L.ring (c w) (z w)) ∙ sum_neg L n _

    pub dot_minus : (c d z : ℕ → F) → dot O n (λ w. c w ⊕ neg (d w)) z ≡ dot O n c z ⊕ neg (dot O n d z)
    dot_minus c d z = dot_add c (λ w. neg (d w)) z ∙ ap (λ t. dot O n c z ⊕ t) (dot_neg d z)

    pub dot_mul : (x : F) (c z : ℕ → F) → dot O n (λ w. x ⊗ c w) z ≡ x ⊗ dot O n c z
    unfolding dot
    dot_mul x c z = sum_ext L n _ _ (λ w _. L.ring.mul_assoc x (c w) (z w)) ∙ sum_mul L n x _

    pub dot_only : (i : ℕ) (x : F) (z : ℕ → F) → i < n → dot O n (λ w. only O i w x) z ≡ x ⊗ z i
    unfolding dot
    dot_only i x z h =
        sum_one L n i _ h (λ w _ d. ap (λ t. t ⊗ z w) (only_other i w x (λ e. d (sym e))) ∙ zero_mul L.ring (z w))
        ∙ ap (λ t. t ⊗ z i) (only_same i i x refl)

    pub dot_one : (i : ℕ) (z : ℕ → F) → i < n → dot O n (λ w. only O i w 𝟙) z ≡ z i
    dot_one i z h = dot_only i 𝟙 z h ∙ one_mul L.ring (z i)

    -- a test that does not depend on the wire
    pub dot_within : (i j : ℕ) (c z : ℕ → F) → dot O n (λ w. only O i j (c w)) z ≡ only O i j (dot O n c z)
    unfolding only
    dot_within i j c z = go (ℕ_discrete i j)
      where
        go : (d : Dec (i ≡ j)) → dot O n (λ w. when d then c w else 𝟘) z ≡ (when d then dot O n c z else 𝟘)
        go (yes _) = refl
        go (no _) = dot_zero z
