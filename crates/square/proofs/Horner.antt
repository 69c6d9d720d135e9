-- Horner's rule for coefficients that a function gives, from the last down.
use Rattle.std.proofs.Common.{◌≡◌, ℕ, suc, ◌+◌, ◌-◌, ◌<◌, ◌≤◌, sym, ap, ◌∙◌, ap₂, add-zero, arith}
use Rattle.field.specs.Operations.{Operations}
use Rattle.field.specs.Laws.{Laws}
use Rattle.transform.specs.Polynomial.{table, value_at}
use Rattle.transform.proofs.Sums.{sum_zero}
use Rattle.transform.proofs.Series.{eval}
use Rattle.transform.proofs.Values.{eval_ext, eval_first}
use Rattle.transform.proofs.Tables.{length_table, get_or_table}
use Rattle.transform.proofs.Polynomials.{value_is_eval}

module _ {F : Type 0} {O : Operations F} (L : Laws O) (y : ℕ → F) (x : F) (k t : ℕ) where
  open O use {zero as 𝟘, add as ◌⊕◌, mul as ◌⊗◌}

  infixl 60 ◌⊕◌
  infixl 70 ◌⊗◌
  -- the value of the coefficients from t on
  abbrev pub value_from : F
  value_from = eval O (k - t) (λ i. y (t + i)) x

  pub horner_none : k ≤ t → value_from ≡ 𝟘
  unfolding eval
  horner_none h = let none : k - t ≡ 0 = omega arith in ap (λ n. eval O n (λ i. y (t + i)) x) none ∙ sum_zero L _

  pub horner_all : t ≤ 0 → value_from ≡ value_at O (table k y) x
  horner_all h =
      let whole : k - t ≡ k = omega arith in
      ap (λ n. eval O n (λ i. y (t + i)) x) whole
      ∙ eval_ext L k _ _ x (λ i l. let place : t + i ≡ i = omega arith in ap y place ∙ sym (get_or_table k y 𝟘 i l))
      ∙ sym (value_is_eval L k (table k y) x (length_table k y))

module _ {F : Type 0} {O : Operations F} (L : Laws O) (y : ℕ → F) (x : F) (k t : ℕ) where
  open O use {zero as 𝟘, add as ◌⊕◌, mul as ◌⊗◌}

  infixl 60 ◌⊕◌
  infixl 70 ◌⊗◌
  pub horner_next : 0 < t → t ≤ k → value_from L y x k (t - 1) ≡ value_from L y x k t ⊗ x ⊕ y (t - 1)
  horner_next some within =
      let more : k - (t - 1) ≡ suc (k - t) = omega arith in
      ap (λ n. eval O n (λ i. y (t - 1 + i)) x) more
      ∙ eval_first L (k - t) (λ i. y (t - 1 + i)) x
      ∙ L.ring.add_comm _ _
      ∙ ap₂ ◌⊕◌
      (L.ring.mul_comm x _ ∙ ap (λ a. a ⊗ x) (eval_ext L (k - t) _ _ x (λ i _. let place : t - 1 + suc i ≡ t + i = omega arith in ap y place)))
      (ap y (add-zero (t - 1)))
