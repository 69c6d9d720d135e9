-- The coefficients of values that vanish off the multiples of a stride.
use Rattle.std.proofs.Common.{◌≡◌, ℕ, ◌+◌, ◌*◌, ◌%◌, ◌<◌, ◌≢◌, [], ◌∷◌, sym, refl, ap, ◌∙◌, add-zero, mul-le-mul_right, mod-eq_of_lt, mul_comm, arith}
use native.Mathlib.Nat.{mul-add-mod_self_right}
use Rattle.field.specs.Operations.{Operations, sum, power, ones}
use Rattle.field.specs.Laws.{Laws}
use Rattle.field.proofs.Ring.{zero_mul}
use Rattle.field.proofs.Solve.{①, ◌⊠◌, ∸◌, ◌≈◌, ◌by◌, ◌⊢◌, by_ring_from}
use Rattle.transform.proofs.Sums.{sum_ext, sum_one, sum_blocks}
use Rattle.transform.proofs.Powers.{power_mul, power_mod}
use Rattle.transform.proofs.Series.{interp}

module _ {F : Type 0} {O : Operations F} (L : Laws O) where
  open O use {zero as 𝟘, one as 𝟙, mul as ◌⊗◌}

  infixl 70 ◌⊗◌
  abbrev Σ : ℕ → (ℕ → F) → F
  Σ = sum O

  infixr 80 ◌^^◌
  abbrev ◌^^◌ : F → ℕ → F
  ◌^^◌ = power O

  -- with s = 1/n for n = k stride, and s' = 1/k: k/n times the coefficient at j mod k over the k multiples
  pub interp_spread : (k stride : ℕ) (w s s' : F) (y : ℕ → F)
      → 0 < stride → w ^^ (k * stride) ≡ 𝟙 → ones O k ⊗ s' ≡ 𝟙
      → ((r : ℕ) → r < k * stride → r % stride ≢ 0 → y r ≡ 𝟘)
      → (j : ℕ) → interp O (k * stride) w s y j ≡ ones O k ⊗ s ⊗ interp O k (w ^^ stride) s' (λ t. y (t * stride)) (j % k)
  unfolding interp
  interp_spread k stride w s s' y pos full size z j =
      ap (λ t. s ⊗ t) (sum_blocks L k stride _ ∙ sum_ext L k _ _ block)
      ∙ by_ring_from L.ring 4 (λ s s' k a. ∸ (s ⊠ a) by (k ⊠ s' ≈ ①) ∷ [] ⊢ s ⊠ a ≈ k ⊠ s ⊠ (s' ⊠ a)) refl
      s s' (ones O k) (Σ k (λ t. y (t * stride) ⊗ (w ^^ stride) ^^ (t * (j % k)))) size
    where
      exponent : (t : ℕ) → w ^^ (t * stride * j) ≡ (w ^^ stride) ^^ (t * (j % k))
      exponent t =
          let x : F = w ^^ stride in
          let order : t * stride * j ≡ stride * (j * t) = omega arith in
          let turn : x ^^ k ≡ 𝟙 = sym (power_mul L w stride k) ∙ ap (λ t. w ^^ t) (mul_comm stride k) ∙ full in
          ap (λ t. w ^^ t) order
          ∙ power_mul L w stride (j * t)
          ∙ power_mul L x j t
          ∙ ap (λ a. a ^^ t) (power_mod L k x turn j)
          ∙ sym (power_mul L x (j % k) t)
          ∙ ap (λ a. x ^^ a) (mul_comm (j % k) t)

      -- in a block of stride values the first alone counts
      block : (t : ℕ) → t < k → Σ stride (λ q. y (t * stride + q) ⊗ w ^^ ((t * stride + q) * j)) ≡ y (t * stride) ⊗ (w ^^ stride) ^^ (t * (j % k))
      block t l =
          sum_one L stride 0 _ pos
          (λ q h d. ap (λ a. a ⊗ w ^^ ((t * stride + q) * j)) (z (t * stride + q) (inside q h) (apart q h d)) ∙ zero_mul L.ring _)
          ∙ ap (λ a. y a ⊗ w ^^ (a * j)) (add-zero (t * stride))
          ∙ ap (λ a. y (t * stride) ⊗ a) (exponent t)
        where
          inside : (q : ℕ) → q < stride → t * stride + q < k * stride
          inside q h = omega (arith, mul-le-mul_right stride l)

          apart : (q : ℕ) → q < stride → q ≢ 0 → (t * stride + q) % stride ≢ 0
          apart q h d e = d (sym (mod-eq_of_lt h) ∙ sym (mul-add-mod_self_right t stride q) ∙ e)
