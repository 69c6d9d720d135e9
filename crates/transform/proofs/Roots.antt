-- Roots of one of 2-power order: their order, and the sums of their powers.
use Rattle.std.proofs.Common.{◌≡◌, ℕ, zero, suc, ◌+◌, ◌-◌, ◌*◌, ◌/◌, ◌%◌, ◌^◌, ◌<◌, ◌≤◌, ◌≢◌, sym, refl, ap, ◌∙◌, subst, add-zero, add-suc, arith, pow_pos, pow-add}
use native.Mathlib.Nat.{two-pow-succ}
use native.Mathlib.Decide.{ℕ_discrete, dec_lt}
use Rattle.field.specs.Operations.{Operations, sum, power, ones, root_of_order}
use Rattle.field.specs.Laws.{Laws}
use Rattle.field.proofs.Ring.{zero_add, one_mul, eq_of_sub}
use Rattle.field.proofs.Solve.{①, ◌⊞◌, ◌⊠◌, ∸◌, ◌≈◌, by_ring}
use Rattle.transform.specs.Polynomial.{Root}
use Rattle.field.proofs.Cancel.{one≢zero, unit≢zero, zero_factor, mul_cancel}
use Rattle.transform.proofs.Sums.{sum_zero, sum_suc, sum_ext, sum_split}
use Rattle.transform.proofs.Powers.{power_suc, power_one, power_add, power_mul, power_comm, square_power, one_power, inverse_power, geometric}

module _ {F : Type 0} {O : Operations F} (L : Laws O) where
  open O use {zero as 𝟘, one as 𝟙, add as ◌⊕◌, mul as ◌⊗◌, neg, top, adicity}

  infixl 60 ◌⊕◌
  infixl 70 ◌⊗◌
  abbrev Σ : ℕ → (ℕ → F) → F
  Σ = sum O

  infixr 80 ◌^^◌
  abbrev ◌^^◌ : F → ℕ → F
  ◌^^◌ = power O

  neg_one_square : neg 𝟙 ⊗ neg 𝟙 ≡ 𝟙
  neg_one_square = by_ring L.ring 0 (∸ ① ⊠ ∸ ① ≈ ①) refl

  pub neg_one≢one : neg 𝟙 ≢ 𝟙
  neg_one≢one e = L.two (ap (λ t. 𝟙 ⊕ t) (sym e) ∙ L.ring.add_neg 𝟙)

  neg_one_odd : (i : ℕ) → neg 𝟙 ^^ (2 * i + 1) ≡ neg 𝟙
  neg_one_odd i =
      power_add L (neg 𝟙) (2 * i) 1
      ∙ ap (λ t. t ⊗ neg 𝟙 ^^ 1) (sym (square_power L (neg 𝟙) i) ∙ ap (λ t. t ^^ i) neg_one_square ∙ one_power L i)
      ∙ one_mul L.ring (neg 𝟙 ^^ 1)
      ∙ power_one L (neg 𝟙)

  -- the square of a root of the next order
  pub root_square : (e : ℕ) (ω : F) → Root O (suc e) ω → Root O e (ω ⊗ ω)
  root_square zero ω h = let is : ω ≡ neg 𝟙 = sym (power_one L ω) ∙ h in ap (λ t. t ⊗ t) is ∙ neg_one_square
  root_square (suc e) ω h =
      let twice : 2 * 2 ^ e ≡ 2 ^ suc e = omega arith in
      square_power L ω (2 ^ e) ∙ ap (λ t. ω ^^ t) twice ∙ h

  -- a power of a root is a root of a smaller order
  pub root_power : (e d : ℕ) (ω : F) → Root O (e + d) ω → Root O e (ω ^^ (2 ^ d))
  root_power e zero ω h = rw (power_one L ω) (rw add-zero at h)
  root_power e (suc d) ω h =
      let twice : 2 * 2 ^ d ≡ 2 ^ suc d = omega arith in
      let is : (ω ⊗ ω) ^^ (2 ^ d) ≡ ω ^^ (2 ^ suc d) = square_power L ω (2 ^ d) ∙ ap (λ t. ω ^^ t) twice in
      rw is at (root_power e d (ω ⊗ ω) (root_square (e + d) ω (rw add-suc at h)))

  -- from a root of the order 2 ^ m, one of each smaller order
  pub root_below : (m e : ℕ) (ω : F) → e ≤ m → Root O m ω → Root O e (ω ^^ (2 ^ (m - e)))
  root_below m e ω h root =
      let whole : m ≡ e + (m - e) = omega arith in
      root_power e (m - e) ω (subst (λ t. Root O t ω) whole root)

  -- the roots that a field has chosen
  pub chosen_root : (e : ℕ) → e ≤ adicity → Root O e (root_of_order O e)
  unfolding root_of_order
  chosen_root e h = root_below adicity e top h top_root
    where
      top_root : Root O adicity top
      top_root =
          let whole : suc (adicity - 1) ≡ adicity = omega (arith, L.adicity_two) in
          subst (λ t. Root O t top) whole L.top_power

  pub chosen_nest : (a d : ℕ) → a + d ≤ adicity → root_of_order O (a + d) ^^ (2 ^ d) ≡ root_of_order O a
  unfolding root_of_order
  chosen_nest a d h =
      let steps : adicity - (a + d) + d ≡ adicity - a = omega arith in
      sym (power_mul L top (2 ^ (adicity - (a + d))) (2 ^ d))
      ∙ ap (λ t. top ^^ t) (sym (pow-add 2 (adicity - (a + d)) d) ∙ ap (λ t. 2 ^ t) steps)

  -- ω^n = 1
  pub root_full : (e : ℕ) (ω : F) → Root O e ω → ω ^^ (2 ^ e) ≡ 𝟙
  root_full zero ω h = power_one L ω ∙ h
  root_full (suc e) ω h = ap (λ t. ω ^^ t) (two-pow-succ e) ∙ power_add L ω (2 ^ e) (2 ^ e) ∙ ap (λ t. t ⊗ t) h ∙ neg_one_square

  -- and no smaller power is 1
  pub root_primitive : (e : ℕ) (ω : F) → Root O e ω → (j : ℕ) → 0 < j → j < 2 ^ e → ω ^^ j ≢ 𝟙
  root_primitive zero ω h j p q one = omega arith
  root_primitive (suc e) ω h j p q one =
      elim (ℕ_discrete (j % 2) 0) [
        | yes z ↦ even (omega arith) (root_primitive e (ω ⊗ ω) (root_square e ω h) (j / 2) (omega arith) (omega (arith, two-pow-succ e)))
        | no z ↦ odd (omega arith)
      ]
    where
      even : 2 * (j / 2) ≡ j → (ω ⊗ ω) ^^ (j / 2) ≢ 𝟙 → ⊥
      even is less = less (square_power L ω (j / 2) ∙ ap (λ t. ω ^^ t) is ∙ one)

      odd : 2 * (j / 2) + 1 ≡ j → ⊥
      odd is =
          neg_one≢one
          (sym (neg_one_odd (j / 2))
          ∙ ap (λ t. neg 𝟙 ^^ t) is
          ∙ ap (λ t. t ^^ j) (sym h)
          ∙ power_comm L ω (2 ^ e) j
          ∙ ap (λ t. t ^^ (2 ^ e)) one
          ∙ one_power L (2 ^ e))

  -- 1/ω
  pub root_inverse : (e : ℕ) (ω : F) → Root O e ω → ω ⊗ ω ^^ (2 ^ e - 1) ≡ 𝟙
  root_inverse e ω root =
      let whole : suc (2 ^ e - 1) ≡ 2 ^ e = omega (arith, pow_pos e) in
      sym (power_suc L ω (2 ^ e - 1)) ∙ ap (λ t. ω ^^ t) whole ∙ root_full e ω root

  pub root≢zero : (e : ℕ) (ω : F) → Root O e ω → ω ≢ 𝟘
  root≢zero e ω root = unit≢zero L ω (ω ^^ (2 ^ e - 1)) (root_inverse e ω root)

  -- the powers below n differ
  pub root_injective : (e : ℕ) (ω : F) → Root O e ω → (i j : ℕ) → i < 2 ^ e → j < 2 ^ e → ω ^^ i ≡ ω ^^ j → i ≡ j
  root_injective e ω root i j hi hj p =
      elim (ℕ_discrete i j) [
        | yes z ↦ z
        | no z ↦ elim (dec_lt i j) [
          | yes l ↦ absurd (apart i j l hj p)
          | no l ↦ absurd (apart j i (omega arith) hi (sym p))
        ]
      ]
    where
      power≢zero : (k : ℕ) → ω ^^ k ≢ 𝟘
      power≢zero k =
          unit≢zero L (ω ^^ k) ((ω ^^ (2 ^ e - 1)) ^^ k) (inverse_power L ω (ω ^^ (2 ^ e - 1)) (root_inverse e ω root) k)

      apart : (a b : ℕ) → a < b → b < 2 ^ e → ω ^^ a ≡ ω ^^ b → ⊥
      apart a b l h p =
          let whole : b ≡ a + (b - a) = omega arith in
          let split : ω ^^ a ⊗ 𝟙 ≡ ω ^^ a ⊗ ω ^^ (b - a) = L.ring.mul_one (ω ^^ a) ∙ p ∙ ap (λ t. ω ^^ t) whole ∙ power_add L ω a (b - a) in
          root_primitive e ω root (b - a) (omega arith) (omega arith) (sym (mul_cancel L (ω ^^ a) 𝟙 (ω ^^ (b - a)) (power≢zero a) split))

  -- 1 + .. + 1, a power of two of them, by doublings; it is not 0
  pub ones_one : ones O 1 ≡ 𝟙
  unfolding ones
  ones_one = sum_suc L 0 (λ _. 𝟙) ∙ ap (λ t. t ⊕ 𝟙) (sum_zero L (λ _. 𝟙)) ∙ zero_add L.ring 𝟙

  pub ones_double : (e : ℕ) → ones O (2 ^ suc e) ≡ ones O (2 ^ e) ⊕ ones O (2 ^ e)
  unfolding ones
  ones_double e = ap (λ t. Σ t (λ _. 𝟙)) (two-pow-succ e) ∙ sum_split L (2 ^ e) (2 ^ e) (λ _. 𝟙)

  pub ones≢zero : (e : ℕ) → ones O (2 ^ e) ≢ 𝟘
  ones≢zero zero z = one≢zero L (sym ones_one ∙ z)
  ones≢zero (suc e) z =
      let c : F = ones O (2 ^ e) in
      ones≢zero e (zero_factor L (𝟙 ⊕ 𝟙) c L.two (by_ring L.ring 1 (λ c. (① ⊞ ①) ⊠ c ≈ c ⊞ c) refl c ∙ sym (ones_double e) ∙ z))

  -- the sum of the n powers of x, where x^n = 1
  pub power_sum_ones : (n : ℕ) (x : F) → x ≡ 𝟙 → Σ n (λ r. x ^^ r) ≡ ones O n
  unfolding ones
  power_sum_ones n x h = sum_ext L n _ _ (λ r _. ap (λ t. t ^^ r) h ∙ one_power L r)

  pub power_sum_zero : (n : ℕ) (x : F) → x ^^ n ≡ 𝟙 → x ≢ 𝟙 → Σ n (λ r. x ^^ r) ≡ 𝟘
  power_sum_zero n x h other =
      zero_factor L (x ⊕ neg 𝟙) (Σ n (λ r. x ^^ r)) (λ z. other (eq_of_sub L.ring x 𝟙 z))
      (geometric L x n ∙ ap (λ t. t ⊕ neg 𝟙) h ∙ L.ring.add_neg 𝟙)
