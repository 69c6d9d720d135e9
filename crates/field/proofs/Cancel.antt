-- Cancellation in a field: there are no zero divisors.
use Rattle.std.proofs.Common.{◌≡◌, ◌≢◌, [], ◌∷◌, sym, refl, ap, ◌∙◌}
use Rattle.field.specs.Operations.{Operations}
use Rattle.field.specs.Laws.{Laws}
use Rattle.field.proofs.Ring.{zero_mul}
use Rattle.field.proofs.Solve.{⓪, ①, ◌⊠◌, ◌⊟◌, ∸◌, ◌≈◌, ◌by◌, ◌⊢◌, by_ring_from}

module _ {F : Type 0} {O : Operations F} (L : Laws O) where
  open O use {zero as 𝟘, one as 𝟙, add as ◌⊕◌, mul as ◌⊗◌, inverse, same}

  infixl 60 ◌⊕◌
  infixl 70 ◌⊗◌
  pub one≢zero : 𝟙 ≢ 𝟘
  one≢zero e = L.two (ap (λ t. t ⊕ t) e ∙ L.ring.add_zero 𝟘)

  -- what has an inverse is not zero
  pub unit≢zero : (x y : F) → x ⊗ y ≡ 𝟙 → x ≢ 𝟘
  unit≢zero x y e z = one≢zero (sym e ∙ ap (λ t. t ⊗ y) z ∙ zero_mul L.ring y)

  pub zero_factor : (x y : F) → x ≢ 𝟘 → x ⊗ y ≡ 𝟘 → y ≡ 𝟘
  zero_factor x y h e =
      by_ring_from L.ring 3 (λ x y i. i by (x ⊠ y ≈ ⓪) ∷ ∸ y by (x ⊠ i ≈ ①) ∷ [] ⊢ y ≈ ⓪) refl x y (inverse x) e (L.mul_inverse x h)

  pub mul_cancel : (x y z : F) → x ≢ 𝟘 → x ⊗ y ≡ x ⊗ z → y ≡ z
  mul_cancel x y z h e =
      by_ring_from L.ring 4 (λ x y z i. i by (x ⊠ y ≈ x ⊠ z) ∷ z ⊟ y by (x ⊠ i ≈ ①) ∷ [] ⊢ y ≈ z) refl x y z (inverse x) e (L.mul_inverse x h)

  -- what makes one with x is its inverse
  pub inverse_unique : (x y : F) → x ≢ 𝟘 → x ⊗ y ≡ 𝟙 → y ≡ inverse x
  inverse_unique x y h e =
      by_ring_from L.ring 3 (λ x y i. i by (x ⊠ y ≈ ①) ∷ ∸ y by (x ⊠ i ≈ ①) ∷ [] ⊢ y ≈ i) refl x y (inverse x) e (L.mul_inverse x h)

  pub square_zero : (x : F) → x ⊗ x ≡ 𝟘 → x ≡ 𝟘
  square_zero x e = elim (same x 𝟘) [ yes z ↦ z | no d ↦ zero_factor x x d e ]
