-- The quadratic extension of a field by a square root θ of its top.
use Rattle.std.specs.Prelude.{◌≡◌, ◌+◌}
use Rattle.std.proofs.Common.{ap}
use Rattle.field.specs.Operations.{Operations}
use Rattle.quadratic.specs.declared.quadratic.Quadratic.{Quadratic}

-- a + bθ
abbrev pub pair : {F : Type 0} → F → F → Quadratic F
pair a b = record { a = a; b = b }

-- elements are equal as both their parts are
pub both : {F : Type 0} {x y : Quadratic F} → x.a ≡ y.a → x.b ≡ y.b → x ≡ y
both p q = λ i. record { a = p i; b = q i }

module _ {F : Type 0} (O : Operations F) where
  open O use {zero as 𝟘, one as 𝟙, add as ◌⊕◌, mul as ◌⊗◌, neg, inverse, same, top, adicity}

  infixl 60 ◌⊕◌
  infixl 70 ◌⊗◌
  -- (a + bθ)(a - bθ), an element of the field below
  abbrev pub norm : Quadratic F → F
  norm x = x.a ⊗ x.a ⊕ neg (top ⊗ (x.b ⊗ x.b))

  abbrev same_parts : (x y : Quadratic F) → Dec (x ≡ y)
  same_parts x y =
      elim (same x.a y.a) [
        | yes p ↦ elim (same x.b y.b) [ yes q ↦ yes (both p q) | no d ↦ no (λ e. d (ap (λ z. z.b) e)) ]
        | no d ↦ no (λ e. d (ap (λ z. z.a) e))
      ]

  abbrev pub doubled : Operations (Quadratic F)
  doubled = record {
    zero = pair 𝟘 𝟘;
    one = pair 𝟙 𝟘;
    add = λ x y. pair (x.a ⊕ y.a) (x.b ⊕ y.b);
    neg = λ x. pair (neg x.a) (neg x.b);
    mul = λ x y. pair (x.a ⊗ y.a ⊕ top ⊗ (x.b ⊗ y.b)) (x.a ⊗ y.b ⊕ x.b ⊗ y.a);
    inverse = λ x. pair (x.a ⊗ inverse (norm x)) (neg (x.b ⊗ inverse (norm x)));
    same = same_parts;
    top = pair 𝟘 𝟙;
    adicity = adicity + 1;
  }
