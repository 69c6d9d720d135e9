-- What the laws of the field below say of a + bθ: its norm is zero only at zero, and its square is never θ.
use Rattle.std.specs.Prelude.{◌≡◌, [], ◌∷◌, refl}
use Rattle.field.specs.Operations.{Operations}
use Rattle.field.specs.Laws.{Laws}
use Rattle.field.proofs.Solve.{⓪, ①, ◌⊞◌, ◌⊠◌, ◌⊟◌, ∸◌, ◌≈◌, ◌by◌, ◌⊢◌, by_ring_from}
use Rattle.field.proofs.Cancel.{one≢zero, square_zero}
use Rattle.field.proofs.Powers.{imaginary, imaginary_square}

module _ {F : Type 0} {O : Operations F} (L : Laws O) where
  open O use {zero, one, add, mul, neg, inverse, same, top}

  -- with b ≠ 0, a² = top b² would make top the square of a / b
  pub norm_zero : (a b : F) → add (mul a a) (neg (mul top (mul b b))) ≡ zero → (a ≡ zero) × (b ≡ zero)
  norm_zero a b e = elim (same b zero) [ yes z ↦ (square_zero L a (flat z), z) | no d ↦ absurd (whole d) ]
    where
      flat : b ≡ zero → mul a a ≡ zero
      flat z = by_ring_from L.ring 3 (λ t a b. ① by (a ⊠ a ⊟ t ⊠ (b ⊠ b) ≈ ⓪) ∷ t ⊠ b by (b ≈ ⓪) ∷ [] ⊢ a ⊠ a ≈ ⓪) refl top a b e z

      whole : ¬ (b ≡ zero) → ⊥
      whole d =
          L.top_no_square (mul a (inverse b))
          (by_ring_from L.ring 4
          (λ t a b i. i ⊠ i by (a ⊠ a ⊟ t ⊠ (b ⊠ b) ≈ ⓪) ∷ t ⊠ (b ⊠ i ⊞ ①) by (b ⊠ i ≈ ①) ∷ [] ⊢ a ⊠ i ⊠ (a ⊠ i) ≈ t) refl
          top a b (inverse b) e (L.mul_inverse b d))

  -- a² + top b² = 0 and 2ab = 1 would make top the square of r a / b, where r² = -1
  pub θ_no_square : (a b : F) → add (mul a a) (mul top (mul b b)) ≡ zero → ¬ (add (mul a b) (mul b a) ≡ one)
  θ_no_square a b e f = elim (same b zero) [ yes z ↦ one≢zero L (flat z) | no d ↦ whole d ]
    where
      flat : b ≡ zero → one ≡ zero
      flat z = by_ring_from L.ring 2 (λ a b. ∸ ① by (a ⊠ b ⊞ b ⊠ a ≈ ①) ∷ a ⊞ a by (b ≈ ⓪) ∷ [] ⊢ ① ≈ ⓪) refl a b f z

      whole : ¬ (b ≡ zero) → ⊥
      whole d =
          L.top_no_square (mul (imaginary L) (mul a (inverse b)))
          -- (r a i)² - t = r² i² (a² + t b²) - r² t ((b i)² - 1) - t (r² + 1)
          (by_ring_from L.ring 5
          (λ t a b i r.
          r ⊠ r ⊠ (i ⊠ i) by (a ⊠ a ⊞ t ⊠ (b ⊠ b) ≈ ⓪) ∷ ∸ (r ⊠ r ⊠ t ⊠ (b ⊠ i ⊞ ①)) by (b ⊠ i ≈ ①) ∷ ∸ t by (r ⊠ r ≈ ∸ ①) ∷ []
          ⊢ r ⊠ (a ⊠ i) ⊠ (r ⊠ (a ⊠ i)) ≈ t) refl
          top a b (inverse b) (imaginary L) e (L.mul_inverse b d) (imaginary_square L))
