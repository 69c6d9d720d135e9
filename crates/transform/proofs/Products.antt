-- Products of polynomials, with the coefficients as functions, and their values.
use Rattle.std.proofs.Common.{◌≡◌, ℕ, suc, ◌+◌, ◌-◌, ◌<◌, ◌≤◌, sym, refl, ap, ◌∙◌, ap₂, le_of_suc-le-suc, zero-add, arith}
use native.Mathlib.Decide.{dec_lt}
use Rattle.field.specs.Operations.{Operations, sum, power}
use Rattle.field.specs.Laws.{Laws}
use Rattle.field.proofs.Ring.{zero_mul, mul_zero, mul_neg}
use Rattle.field.proofs.Solve.{◌⊠◌, ◌≈◌, by_ring}
use Rattle.transform.proofs.Sums.{sum_ext, sum_none, sum_add, sum_neg, sum_mul, sum_mul_right, sum_one, sum_short, sum_triangle}
use Rattle.transform.proofs.Powers.{power_add}
use Rattle.transform.proofs.Series.{Below, eval, conv, mono, vanish}
use Rattle.transform.proofs.Values.{mono_same, mono_other}

module _ {F : Type 0} {O : Operations F} (L : Laws O) where
  open O use {zero as 𝟘, one as 𝟙, add as ◌⊕◌, mul as ◌⊗◌, neg}

  infixl 60 ◌⊕◌
  infixl 70 ◌⊗◌
  abbrev Σ : ℕ → (ℕ → F) → F
  Σ = sum O

  infixr 80 ◌^^◌
  abbrev ◌^^◌ : F → ℕ → F
  ◌^^◌ = power O

  pub conv_ext : (u u' v v' : ℕ → F) → ((i : ℕ) → u i ≡ u' i) → ((i : ℕ) → v i ≡ v' i) → (e : ℕ) → conv O u v e ≡ conv O u' v' e
  unfolding conv
  conv_ext u u' v v' p q e = sum_ext L (suc e) _ _ (λ i _. ap₂ ◌⊗◌ (p i) (q (e - i)))

  -- the degree of a product
  pub conv_below : (n m : ℕ) (u v : ℕ → F) → Below O n u → Below O m v → (e : ℕ) → n + m ≤ suc e → conv O u v e ≡ 𝟘
  unfolding conv
  conv_below n m u v zu zv e h = sum_none L (suc e) _ term
    where
      term : (i : ℕ) → i < suc e → u i ⊗ v (e - i) ≡ 𝟘
      term i l =
          elim (dec_lt i n) [
            | yes k ↦ ap (λ t. u i ⊗ t) (zv (e - i) (omega arith)) ∙ mul_zero L.ring (u i)
            | no k ↦ ap (λ t. t ⊗ v (e - i)) (zu i (omega arith)) ∙ zero_mul L.ring (v (e - i))
          ]

  -- the value of a product is the product of the values
  pub eval_conv : (n m k : ℕ) (u v : ℕ → F) (x : F) → n + m ≤ k → Below O n u → Below O m v → eval O k (conv O u v) x ≡ eval O n u x ⊗ eval O m v x
  unfolding eval conv
  eval_conv n m k u v x h zu zv =
      sum_ext L k _ _ (λ e _. sym (sum_mul_right L (suc e) (x ^^ e) _) ∙ sum_ext L (suc e) _ _ (λ i l. term e i (le_of_suc-le-suc l)))
      ∙ sum_triangle L k (λ i j. a i ⊗ b j)
      ∙ sum_ext L k _ _ (λ i _. sum_mul L (k - i) (a i) b ∙ row i)
      ∙ sum_short L n k (λ i. a i ⊗ Σ m b) (omega arith) (λ i l _. ap (λ t. t ⊗ Σ m b) (gone i l) ∙ zero_mul L.ring (Σ m b))
      ∙ sum_mul_right L n (Σ m b) a
    where
      a : ℕ → F
      a i = u i ⊗ x ^^ i

      b : ℕ → F
      b j = v j ⊗ x ^^ j

      term : (e i : ℕ) → i ≤ e → u i ⊗ v (e - i) ⊗ x ^^ e ≡ a i ⊗ b (e - i)
      term e i l =
          let whole : e ≡ i + (e - i) = omega arith in
          ap (λ t. u i ⊗ v (e - i) ⊗ t) (ap (λ t. x ^^ t) whole ∙ power_add L x i (e - i))
          ∙ by_ring L.ring 4 (λ u v p q. u ⊠ v ⊠ (p ⊠ q) ≈ u ⊠ p ⊠ (v ⊠ q)) refl (u i) (v (e - i)) (x ^^ i) (x ^^ (e - i))

      gone : (i : ℕ) → n ≤ i → a i ≡ 𝟘
      gone i l = ap (λ t. t ⊗ x ^^ i) (zu i l) ∙ zero_mul L.ring (x ^^ i)

      row : (i : ℕ) → a i ⊗ Σ (k - i) b ≡ a i ⊗ Σ m b
      row i =
          elim (dec_lt i n) [
            | yes l ↦ ap (λ t. a i ⊗ t) (sum_short L m (k - i) b (omega arith) (λ j l _. ap (λ t. t ⊗ x ^^ j) (zv j l) ∙ zero_mul L.ring (x ^^ j)))
            | no l ↦ none (gone i (omega arith))
          ]
        where
          none : a i ≡ 𝟘 → a i ⊗ Σ (k - i) b ≡ a i ⊗ Σ m b
          none z = ap (λ t. t ⊗ Σ (k - i) b) z ∙ zero_mul L.ring _ ∙ sym (ap (λ t. t ⊗ Σ m b) z ∙ zero_mul L.ring _)

  -- a product with X^k
  pub conv_mono : (h : ℕ → F) (k e : ℕ) → conv O h (mono O k) (k + e) ≡ h e
  unfolding conv
  conv_mono h k e =
      let back : k + e - e ≡ k = omega arith in
      sum_one L (suc (k + e)) e _ (omega arith) (λ i l d. ap (λ t. h i ⊗ t) (mono_other L k (k + e - i) (omega arith)) ∙ mul_zero L.ring (h i))
      ∙ ap (λ t. h e ⊗ t) (ap (mono O k) back ∙ mono_same L k)
      ∙ L.ring.mul_one (h e)

  pub conv_mono_low : (h : ℕ → F) (k e : ℕ) → e < k → conv O h (mono O k) e ≡ 𝟘
  unfolding conv
  conv_mono_low h k e l = sum_none L (suc e) _ (λ i _. ap (λ t. h i ⊗ t) (mono_other L k (e - i) (omega arith)) ∙ mul_zero L.ring (h i))

  -- a product with X^n - 1
  pub conv_vanish : (h : ℕ → F) (n e : ℕ) → conv O h (vanish O n) e ≡ conv O h (mono O n) e ⊕ neg (h e)
  unfolding conv
  conv_vanish h n e =
      sum_ext L (suc e) _ _ (λ i _. L.ring.mul_add (h i) (mono O n (e - i)) _ ∙ ap (λ t. h i ⊗ mono O n (e - i) ⊕ t) (mul_neg L.ring (h i) _))
      ∙ sum_add L (suc e) _ _
      ∙ ap (λ t. Σ (suc e) (λ i. h i ⊗ mono O n (e - i)) ⊕ t) (sum_neg L (suc e) _ ∙ ap neg (rw zero-add at (conv_mono h 0 e)))
