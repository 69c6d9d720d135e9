-- The n values at the powers of a root of one, and the n coefficients that take them, determine each other.
use Rattle.std.proofs.Common.{◌≡◌, ℕ, ◌*◌, ◌^◌, ◌<◌, ◌≢◌, [], ◌∷◌, sym, refl, ap, ◌∙◌, ap₂, mul_comm}
use Rattle.field.specs.Operations.{Operations, sum, power, ones}
use Rattle.field.specs.Laws.{Laws}
use Rattle.field.proofs.Ring.{mul_zero}
use Rattle.field.proofs.Solve.{①, ◌⊠◌, ∸◌, ◌≈◌, ◌by◌, ◌⊢◌, by_ring_from}
use Rattle.transform.specs.Polynomial.{Root}
use Rattle.transform.proofs.Sums.{sum_ext, sum_mul, sum_mul_right, sum_swap, sum_one}
use Rattle.transform.proofs.Powers.{power_mul, power_comm, mul_power, inverse_power, inverse_turn, power_turn}
use Rattle.transform.proofs.Roots.{root_full, root_injective, power_sum_ones, power_sum_zero}
use Rattle.transform.proofs.Series.{eval, interp}

module _ {F : Type 0} {O : Operations F} (L : Laws O) where
  open O use {zero as 𝟘, one as 𝟙, mul as ◌⊗◌}

  infixl 70 ◌⊗◌
  abbrev Σ : ℕ → (ℕ → F) → F
  Σ = sum O

  infixr 80 ◌^^◌
  abbrev ◌^^◌ : F → ℕ → F
  ◌^^◌ = power O

  pub interp_ext : (n : ℕ) (w s : F) (y z : ℕ → F) (j : ℕ) → ((r : ℕ) → r < n → y r ≡ z r) → interp O n w s y j ≡ interp O n w s z j
  unfolding interp
  interp_ext n w s y z j h = ap (λ t. s ⊗ t) (sum_ext L n _ _ (λ r k. ap (λ t. t ⊗ w ^^ (r * j)) (h r k)))

  -- where the n powers of x i cancel out but for i = k, a double sum picks a k
  pick : (n k : ℕ) (a x : ℕ → F) (s : F)
      → k < n → ones O n ⊗ s ≡ 𝟙 → x k ≡ 𝟙 → ((i : ℕ) → x i ^^ n ≡ 𝟙) → ((i : ℕ) → i < n → i ≢ k → x i ≢ 𝟙)
      → s ⊗ Σ n (λ r. Σ n (λ i. a i ⊗ x i ^^ r)) ≡ a k
  pick n k a x s h size one full other =
      ap (λ t. s ⊗ t) (sum_swap L n n (λ r i. a i ⊗ x i ^^ r) ∙ sum_ext L n _ _ (λ i _. sum_mul L n (a i) _) ∙ alone)
      ∙ by_ring_from L.ring 3 (λ s a n. a by (n ⊠ s ≈ ①) ∷ [] ⊢ s ⊠ (a ⊠ n) ≈ a) refl s (a k) (ones O n) size
    where
      alone : Σ n (λ i. a i ⊗ Σ n (λ r. x i ^^ r)) ≡ a k ⊗ ones O n
      alone =
          sum_one L n k _ h (λ i l d. ap (λ t. a i ⊗ t) (power_sum_zero L n (x i) (full i) (other i l d)) ∙ mul_zero L.ring (a i))
          ∙ ap (λ t. a k ⊗ t) (power_sum_ones L n (x k) one)

  -- w is 1/ω, and s is 1/n
  module _ (e : ℕ) (ω w s : F) (root : Root O e ω) (inv : ω ⊗ w ≡ 𝟙) (size : ones O (2 ^ e) ⊗ s ≡ 𝟙) where
    abbrev n : ℕ
    n = 2 ^ e

    -- ω^i / ω^j is 1 for i = j alone, and an n-th root of one always
    ratio_full : (i j : ℕ) → (ω ^^ i ⊗ w ^^ j) ^^ n ≡ 𝟙
    ratio_full i j =
        mul_power L (ω ^^ i) (w ^^ j) n
        ∙ ap₂ ◌⊗◌ (power_turn L n ω (root_full L e ω root) i) (power_turn L n w (inverse_turn L n ω w (root_full L e ω root) inv) j)
        ∙ L.ring.mul_one 𝟙

    ratio_other : (i j : ℕ) → i < n → j < n → i ≢ j → ω ^^ i ⊗ w ^^ j ≢ 𝟙
    ratio_other i j hi hj d one =
        d (root_injective L e ω root i j hi hj
        (by_ring_from L.ring 3 (λ a b c. c by (a ⊠ b ≈ ①) ∷ ∸ a by (c ⊠ b ≈ ①) ∷ [] ⊢ a ≈ c) refl
        (ω ^^ i) (w ^^ j) (ω ^^ j) one (inverse_power L ω w inv j)))

    -- the coefficients of the values are the coefficients
    pub interp_eval : (c : ℕ → F) (j : ℕ) → j < 2 ^ e → interp O (2 ^ e) w s (λ r. eval O (2 ^ e) c (ω ^^ r)) j ≡ c j
    unfolding eval interp
    interp_eval c j h =
        ap (λ t. s ⊗ t) (sum_ext L n _ _ (λ r _. sym (sum_mul_right L n _ _) ∙ sum_ext L n _ _ (λ i _. term r i)))
        ∙ pick n j c (λ i. ω ^^ i ⊗ w ^^ j) s h size (inverse_power L ω w inv j) (λ i. ratio_full i j) (λ i l d. ratio_other i j l h d)
      where
        term : (r i : ℕ) → c i ⊗ (ω ^^ r) ^^ i ⊗ w ^^ (r * j) ≡ c i ⊗ (ω ^^ i ⊗ w ^^ j) ^^ r
        term r i =
            L.ring.mul_assoc (c i) ((ω ^^ r) ^^ i) (w ^^ (r * j))
            ∙ ap (λ t. c i ⊗ t)
            (ap₂ ◌⊗◌ (power_comm L ω r i) (ap (λ t. w ^^ t) (mul_comm r j) ∙ power_mul L w j r) ∙ sym (mul_power L (ω ^^ i) (w ^^ j) r))

    -- the values of the coefficients are the values
    pub eval_interp : (y : ℕ → F) (t : ℕ) → t < 2 ^ e → eval O (2 ^ e) (interp O (2 ^ e) w s y) (ω ^^ t) ≡ y t
    unfolding eval interp
    eval_interp y t h =
        sum_ext L n _ _ (λ j _. L.ring.mul_assoc s _ _ ∙ ap (λ x. s ⊗ x) (sym (sum_mul_right L n _ _) ∙ sum_ext L n _ _ (λ r _. term j r)))
        ∙ sum_mul L n s _
        ∙ pick n t y (λ r. ω ^^ t ⊗ w ^^ r) s h size (inverse_power L ω w inv t) (λ r. ratio_full t r) (λ r l d. ratio_other t r h l (λ z. d (sym z)))
      where
        term : (j r : ℕ) → y r ⊗ w ^^ (r * j) ⊗ (ω ^^ t) ^^ j ≡ y r ⊗ (ω ^^ t ⊗ w ^^ r) ^^ j
        term j r =
            L.ring.mul_assoc (y r) (w ^^ (r * j)) ((ω ^^ t) ^^ j)
            ∙ ap (λ x. y r ⊗ x)
            (L.ring.mul_comm (w ^^ (r * j)) ((ω ^^ t) ^^ j)
            ∙ ap (λ x. (ω ^^ t) ^^ j ⊗ x) (power_mul L w r j)
            ∙ sym (mul_power L (ω ^^ t) (w ^^ r) j))

    -- no two polynomials with n coefficients take the same values
    pub eval_unique : (c d : ℕ → F) → ((r : ℕ) → r < 2 ^ e → eval O (2 ^ e) c (ω ^^ r) ≡ eval O (2 ^ e) d (ω ^^ r)) → (j : ℕ) → j < 2 ^ e → c j ≡ d j
    eval_unique c d h j l =
        sym (interp_eval c j l) ∙ interp_ext n w s _ _ j h ∙ interp_eval d j l
