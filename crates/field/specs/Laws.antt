-- The laws that a field keeps. Whatever is proved of "every field" is proved from these and nothing else.
use Rattle.std.specs.Prelude.{◌≡◌, ◌-◌, ◌^◌, ◌≤◌}
use Rattle.field.specs.Operations.{Operations, power}

module _ {F : Type 0} (O : Operations F) where
  open O use {zero as 𝟘, one as 𝟙, add as ◌⊕◌, mul as ◌⊗◌, neg, inverse, top, adicity}

  infixl 60 ◌⊕◌
  infixl 70 ◌⊗◌
  -- a commutative ring
  pub record Ring : Type 0 where
    pub add_assoc : (x y z : F) → (x ⊕ y) ⊕ z ≡ x ⊕ (y ⊕ z)
    pub add_comm : (x y : F) → x ⊕ y ≡ y ⊕ x
    pub add_zero : (x : F) → x ⊕ 𝟘 ≡ x
    pub add_neg : (x : F) → x ⊕ neg x ≡ 𝟘
    pub mul_assoc : (x y z : F) → (x ⊗ y) ⊗ z ≡ x ⊗ (y ⊗ z)
    pub mul_comm : (x y : F) → x ⊗ y ≡ y ⊗ x
    pub mul_one : (x : F) → x ⊗ 𝟙 ≡ x
    pub mul_add : (x y z : F) → x ⊗ (y ⊕ z) ≡ x ⊗ y ⊕ x ⊗ z

  -- a field in which 1 + 1 is not 0, with an element whose 2^(adicity - 1)-th power is -1 and that is no square.
  -- That 0 and 1 differ, and that 0 has no inverse, follows.
  pub record Laws : Type 0 where
    pub ring : Ring
    pub mul_inverse : (x : F) → ¬ (x ≡ 𝟘) → x ⊗ inverse x ≡ 𝟙
    pub two : ¬ (𝟙 ⊕ 𝟙 ≡ 𝟘)
    pub adicity_two : 2 ≤ adicity
    pub top_power : power O top (2 ^ (adicity - 1)) ≡ neg 𝟙
    pub top_no_square : (x : F) → ¬ (x ⊗ x ≡ top)
