-- Finite sums.
use Rattle.std.proofs.Common.{◌≡◌, ℕ, zero, suc, ◌+◌, ◌-◌, ◌*◌, ◌<◌, ◌≤◌, ◌≢◌, sym, refl, ap, ◌∙◌, ap₂, inl, inr, le_of_suc-le-suc, not-suc-le-zero, add-zero, add-suc, suc-mul, eq-or-lt_of_le, zero-mul, arith}
use native.Mathlib.Nat.{le_step}
use Rattle.field.specs.Operations.{Operations, sum}
use Rattle.field.specs.Laws.{Laws}
use Rattle.field.proofs.Ring as R
use Rattle.field.proofs.Solve.{◌⊞◌, ◌≈◌, by_ring}

module _ {F : Type 0} {O : Operations F} (L : Laws O) where
  open O use {zero as 𝟘, add as ◌⊕◌, mul as ◌⊗◌, neg}

  infixl 60 ◌⊕◌
  infixl 70 ◌⊗◌
  abbrev Σ : ℕ → (ℕ → F) → F
  Σ = sum O

  pub sum_zero : (f : ℕ → F) → Σ 0 f ≡ 𝟘
  unfolding sum
  sum_zero f = refl

  pub sum_suc : (n : ℕ) (f : ℕ → F) → Σ (suc n) f ≡ Σ n f ⊕ f n
  unfolding sum
  sum_suc n f = refl

  pub sum_ext : (n : ℕ) (f g : ℕ → F) → ((i : ℕ) → i < n → f i ≡ g i) → Σ n f ≡ Σ n g
  unfolding sum
  sum_ext zero f g h = refl
  sum_ext (suc n) f g h = ap₂ ◌⊕◌ (sum_ext n f g (λ i k. h i (le_step k))) (h n (omega arith))

  -- no term counts
  pub sum_none : (n : ℕ) (f : ℕ → F) → ((i : ℕ) → i < n → f i ≡ 𝟘) → Σ n f ≡ 𝟘
  unfolding sum
  sum_none zero f h = refl
  sum_none (suc n) f h = ap₂ ◌⊕◌ (sum_none n f (λ i k. h i (le_step k))) (h n (omega arith)) ∙ L.ring.add_zero 𝟘

  interchange : (a b c d : F) → a ⊕ b ⊕ (c ⊕ d) ≡ a ⊕ c ⊕ (b ⊕ d)
  interchange = by_ring L.ring 4 (λ a b c d. a ⊞ b ⊞ (c ⊞ d) ≈ a ⊞ c ⊞ (b ⊞ d)) refl

  pub sum_add : (n : ℕ) (f g : ℕ → F) → Σ n (λ i. f i ⊕ g i) ≡ Σ n f ⊕ Σ n g
  unfolding sum
  sum_add zero f g = sym (L.ring.add_zero 𝟘)
  sum_add (suc n) f g = ap (λ t. t ⊕ (f n ⊕ g n)) (sum_add n f g) ∙ interchange (Σ n f) (Σ n g) (f n) (g n)

  pub sum_neg : (n : ℕ) (f : ℕ → F) → Σ n (λ i. neg (f i)) ≡ neg (Σ n f)
  unfolding sum
  sum_neg zero f = sym (R.neg_zero L.ring)
  sum_neg (suc n) f = ap (λ t. t ⊕ neg (f n)) (sum_neg n f) ∙ sym (R.neg_sum L.ring (Σ n f) (f n))

  pub sum_mul : (n : ℕ) (a : F) (f : ℕ → F) → Σ n (λ i. a ⊗ f i) ≡ a ⊗ Σ n f
  unfolding sum
  sum_mul zero a f = sym (R.mul_zero L.ring a)
  sum_mul (suc n) a f = ap (λ t. t ⊕ a ⊗ f n) (sum_mul n a f) ∙ sym (L.ring.mul_add a (Σ n f) (f n))

  pub sum_mul_right : (n : ℕ) (a : F) (f : ℕ → F) → Σ n (λ i. f i ⊗ a) ≡ Σ n f ⊗ a
  sum_mul_right n a f = sum_ext n _ _ (λ i _. L.ring.mul_comm (f i) a) ∙ sum_mul n a f ∙ L.ring.mul_comm a (Σ n f)

  pub sum_swap : (n m : ℕ) (f : ℕ → ℕ → F) → Σ n (λ i. Σ m (λ j. f i j)) ≡ Σ m (λ j. Σ n (λ i. f i j))
  sum_swap zero m f = sum_zero _ ∙ sym (sum_none m _ (λ j _. sum_zero (λ i. f i j)))
  sum_swap (suc n) m f =
      sum_suc n _
      ∙ ap (λ t. t ⊕ Σ m (f n)) (sum_swap n m f)
      ∙ sym (sum_add m (λ j. Σ n (λ i. f i j)) (f n))
      ∙ sum_ext m _ _ (λ j _. sym (sum_suc n (λ i. f i j)))

  -- one term alone counts
  pub sum_one : (n k : ℕ) (f : ℕ → F) → k < n → ((i : ℕ) → i < n → i ≢ k → f i ≡ 𝟘) → Σ n f ≡ f k
  sum_one zero k f h z = absurd (not-suc-le-zero h)
  sum_one (suc n) k f h z =
      elim (eq-or-lt_of_le (le_of_suc-le-suc h)) [
        | inl e ↦ sum_suc n f ∙ ap₂ ◌⊕◌ (sum_none n f (λ i l. z i (le_step l) (omega arith))) (ap f (sym e)) ∙ R.zero_add L.ring (f k)
        | inr l ↦ sum_suc n f ∙ ap₂ ◌⊕◌ (sum_one n k f l (λ i m. z i (le_step m))) (z n (omega arith) (omega arith)) ∙ L.ring.add_zero (f k)
      ]

  pub sum_split : (m n : ℕ) (f : ℕ → F) → Σ (m + n) f ≡ Σ m f ⊕ Σ n (λ i. f (m + i))
  unfolding sum
  sum_split m zero f = rw add-zero (sym (L.ring.add_zero (Σ m f)))
  sum_split m (suc n) f = rw add-suc (ap (λ t. t ⊕ f (m + n)) (sum_split m n f) ∙ L.ring.add_assoc (Σ m f) (Σ n (λ i. f (m + i))) (f (m + n)))

  pub sum_first : (n : ℕ) (f : ℕ → F) → Σ (suc n) f ≡ f 0 ⊕ Σ n (λ i. f (suc i))
  unfolding sum
  sum_first zero f = L.ring.add_comm 𝟘 (f 0)
  sum_first (suc n) f = ap (λ t. t ⊕ f (suc n)) (sum_first n f) ∙ L.ring.add_assoc (f 0) (Σ n (λ i. f (suc i))) (f (suc n))

  -- by blocks of m terms
  pub sum_blocks : (n m : ℕ) (f : ℕ → F) → Σ (n * m) f ≡ Σ n (λ i. Σ m (λ j. f (i * m + j)))
  unfolding sum
  sum_blocks zero m f = rw zero-mul
  sum_blocks (suc n) m f = rw suc-mul (sum_split (n * m) m f ∙ ap (λ t. t ⊕ Σ m (λ j. f (n * m + j))) (sum_blocks n m f))

  -- the even places and the odd places
  pub sum_halves : (n : ℕ) (f : ℕ → F) → Σ (2 * n) f ≡ Σ n (λ i. f (2 * i)) ⊕ Σ n (λ i. f (2 * i + 1))
  unfolding sum
  sum_halves zero f = sym (L.ring.add_zero 𝟘)
  sum_halves (suc n) f =
      let two_more : 2 * suc n ≡ suc (suc (2 * n)) = omega arith in
      let odd : suc (2 * n) ≡ 2 * n + 1 = omega arith in
      ap (λ t. Σ t f) two_more
      ∙ ap₂ (λ s t. s ⊕ f (2 * n) ⊕ f t) (sum_halves n f) odd
      ∙ L.ring.add_assoc _ _ _
      ∙ interchange _ _ _ _

  -- the last terms vanish
  pub sum_short : (m n : ℕ) (f : ℕ → F) → m ≤ n → ((i : ℕ) → m ≤ i → i < n → f i ≡ 𝟘) → Σ n f ≡ Σ m f
  sum_short m n f h z =
      let whole : n ≡ m + (n - m) = omega arith in
      ap (λ t. Σ t f) whole
      ∙ sum_split m (n - m) f
      ∙ ap (λ t. Σ m f ⊕ t) (sum_none (n - m) _ (λ i l. z (m + i) (omega arith) (omega arith)))
      ∙ L.ring.add_zero (Σ m f)

  -- over a triangle, by diagonals or by rows
  pub sum_triangle : (n : ℕ) (g : ℕ → ℕ → F) → Σ n (λ e. Σ (suc e) (λ i. g i (e - i))) ≡ Σ n (λ i. Σ (n - i) (g i))
  sum_triangle zero g = sum_zero _ ∙ sym (sum_zero (λ i. Σ (0 - i) (g i)))
  sum_triangle (suc n) g =
      sum_suc n (λ e. Σ (suc e) (λ i. g i (e - i)))
      ∙ ap (λ t. t ⊕ Σ (suc n) (λ i. g i (n - i))) (sum_triangle n g ∙ sym rows)
      ∙ sym (sum_add (suc n) (λ i. Σ (n - i) (g i)) (λ i. g i (n - i)))
      ∙ sum_ext (suc n) _ _ longer
    where
      rows : Σ (suc n) (λ i. Σ (n - i) (g i)) ≡ Σ n (λ i. Σ (n - i) (g i))
      rows =
          let none : n - n ≡ 0 = omega arith in
          sum_suc n _ ∙ ap (λ t. Σ n (λ i. Σ (n - i) (g i)) ⊕ t) (ap (λ t. Σ t (g n)) none ∙ sum_zero (g n)) ∙ L.ring.add_zero _

      longer : (i : ℕ) → i < suc n → Σ (n - i) (g i) ⊕ g i (n - i) ≡ Σ (suc n - i) (g i)
      longer i h =
          let more : suc (n - i) ≡ suc n - i = omega arith in
          sym (sum_suc (n - i) (g i)) ∙ ap (λ t. Σ t (g i)) more
