-- Values of polynomials, with the coefficients as a function.
use Rattle.std.proofs.Common.{◌≡◌, ℕ, zero, suc, ◌+◌, ◌<◌, ◌≤◌, ◌≢◌, sym, refl, ap, ◌∙◌, ap₂, arith}
use Rattle.field.specs.Operations.{Operations, sum, power}
use Rattle.field.specs.Laws.{Laws}
use Rattle.field.proofs.Ring.{zero_add, one_mul, zero_mul, mul_zero, neg_mul, add_mul, mul_left_comm}
use Rattle.transform.proofs.Sums.{sum_ext, sum_add, sum_neg, sum_one, sum_split, sum_short}
use Rattle.transform.proofs.Powers.{power_zero, power_suc, power_add}
use Rattle.transform.proofs.Series.{Below, eval, mono, vanish}

module _ {F : Type 0} {O : Operations F} (L : Laws O) where
  open O use {zero as 𝟘, one as 𝟙, add as ◌⊕◌, mul as ◌⊗◌, neg}

  infixl 60 ◌⊕◌
  infixl 70 ◌⊗◌
  infixr 80 ◌^^◌
  abbrev ◌^^◌ : F → ℕ → F
  ◌^^◌ = power O

  pub eval_ext : (n : ℕ) (c d : ℕ → F) (x : F) → ((i : ℕ) → i < n → c i ≡ d i) → eval O n c x ≡ eval O n d x
  unfolding eval
  eval_ext n c d x h = sum_ext L n _ _ (λ i k. ap (λ t. t ⊗ x ^^ i) (h i k))

  pub eval_add : (n : ℕ) (c d : ℕ → F) (x : F) → eval O n (λ i. c i ⊕ d i) x ≡ eval O n c x ⊕ eval O n d x
  unfolding eval
  eval_add n c d x = sum_ext L n _ _ (λ i _. add_mul L.ring (c i) (d i) (x ^^ i)) ∙ sum_add L n _ _

  pub eval_neg : (n : ℕ) (c : ℕ → F) (x : F) → eval O n (λ i. neg (c i)) x ≡ neg (eval O n c x)
  unfolding eval
  eval_neg n c x = sum_ext L n _ _ (λ i _. neg_mul L.ring (c i) (x ^^ i)) ∙ sum_neg L n _

  -- zeros behind the coefficients change nothing
  pub eval_longer : (n m : ℕ) (c : ℕ → F) (x : F) → n ≤ m → Below O n c → eval O m c x ≡ eval O n c x
  unfolding eval
  eval_longer n m c x h z = sum_short L n m _ h (λ i l _. ap (λ t. t ⊗ x ^^ i) (z i l) ∙ zero_mul L.ring (x ^^ i))

  -- Horner's rule
  pub eval_first : (n : ℕ) (c : ℕ → F) (x : F) → eval O (suc n) c x ≡ c 0 ⊕ x ⊗ eval O n (λ i. c (suc i)) x
  unfolding eval sum
  eval_first zero c x =
      zero_add L.ring (c 0 ⊗ x ^^ 0)
      ∙ ap (λ t. c 0 ⊗ t) (power_zero L x)
      ∙ L.ring.mul_one (c 0)
      ∙ sym (L.ring.add_zero (c 0))
      ∙ ap (λ t. c 0 ⊕ t) (sym (mul_zero L.ring x))
  eval_first (suc n) c x =
      let S : F = sum O n (λ i. c (suc i) ⊗ x ^^ i) in
      ap₂ ◌⊕◌ (eval_first n c x) (ap (λ t. c (suc n) ⊗ t) (power_suc L x n) ∙ mul_left_comm L.ring (c (suc n)) x (x ^^ n))
      ∙ L.ring.add_assoc (c 0) (x ⊗ S) (x ⊗ (c (suc n) ⊗ x ^^ n))
      ∙ ap (λ t. c 0 ⊕ t) (sym (L.ring.mul_add x S (c (suc n) ⊗ x ^^ n)))

  -- where x^n = 1, the upper half of 2 n coefficients may be folded onto the lower
  pub eval_fold : (n : ℕ) (c : ℕ → F) (x : F) → x ^^ n ≡ 𝟙 → eval O n (λ i. c i ⊕ c (n + i)) x ≡ eval O (n + n) c x
  unfolding eval
  eval_fold n c x h = eval_add n c (λ i. c (n + i)) x ∙ sym (sum_split L n n _ ∙ ap (λ t. eval O n c x ⊕ t) (sum_ext L n _ _ term))
    where
      term : (i : ℕ) → i < n → c (n + i) ⊗ x ^^ (n + i) ≡ c (n + i) ⊗ x ^^ i
      term i _ = ap (λ t. c (n + i) ⊗ t) (power_add L x n i ∙ ap (λ t. t ⊗ x ^^ i) h ∙ one_mul L.ring (x ^^ i))

  pub mono_same : (k : ℕ) → mono O k k ≡ 𝟙
  unfolding mono
  mono_same zero = refl
  mono_same (suc k) = mono_same k

  pub mono_other : (k i : ℕ) → i ≢ k → mono O k i ≡ 𝟘
  unfolding mono
  mono_other zero zero d = absurd (d refl)
  mono_other zero (suc i) d = refl
  mono_other (suc k) zero d = refl
  mono_other (suc k) (suc i) d = mono_other k i (λ z. d (ap suc z))

  pub eval_mono : (n k : ℕ) (x : F) → k < n → eval O n (mono O k) x ≡ x ^^ k
  unfolding eval
  eval_mono n k x h =
      sum_one L n k _ h (λ i _ d. ap (λ t. t ⊗ x ^^ i) (mono_other k i d) ∙ zero_mul L.ring (x ^^ i))
      ∙ ap (λ t. t ⊗ x ^^ k) (mono_same k)
      ∙ one_mul L.ring (x ^^ k)

  pub vanish_below : (n : ℕ) → Below O (suc n) (vanish O n)
  vanish_below n i l =
      ap₂ (λ a b. a ⊕ neg b) (mono_other n i (omega arith)) (mono_other 0 i (omega arith)) ∙ L.ring.add_neg 𝟘

  pub eval_vanish : (n : ℕ) (x : F) → eval O (suc n) (vanish O n) x ≡ x ^^ n ⊕ neg 𝟙
  eval_vanish n x =
      eval_add (suc n) (mono O n) (λ i. neg (mono O 0 i)) x
      ∙ ap₂ ◌⊕◌
      (eval_mono (suc n) n x (omega arith))
      (eval_neg (suc n) (mono O 0) x ∙ ap neg (eval_mono (suc n) 0 x (omega arith) ∙ power_zero L x))
