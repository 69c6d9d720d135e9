-- What the functions on polynomials answer.
use Rattle.std.specs.Prelude.{◌≡◌, ℕ, zero, suc, ◌+◌, ◌-◌, ◌&&◌, List, length, None, Result, ◌==◌, nat_le, nat_lt}
use Rattle.refusal.specs.Due.{Due, Decided, unless}
use Rattle.refusal.specs.declared.refused.Refused.{Refused}
use Rattle.field.specs.Operations.{Operations, root_of_order}
use Rattle.transform.specs.Logarithm.{log2, is_power_of_two}
use Rattle.transform.specs.Polynomial.{table, coefficient, product_at, Takes}

-- how many coefficients the product has: one less than its factors together; none where a factor has none
abbrev pub product_length : ℕ → ℕ → ℕ
product_length zero m = 0
product_length (suc n) zero = 0
product_length (suc n) (suc m) = suc n + m

module _ {F : Type 0} (O : Operations F) where
  -- 5 unless there are as many values as places and that number is a power of two, then 2 unless the field has a root of that order
  abbrev pub interpolate_due : (values out : List F) → Due
  interpolate_due values out =
      unless (length values == length out && is_power_of_two (length values)) 5
      (unless (nat_le (log2 (length values)) O.adicity) 2 None)

  -- out becomes the polynomial that takes the values at the powers of the root; nothing is said of how it is found
  abbrev pub Interpolated : (values out out' : List F) → Result (Unit {0}) Refused → Type 0
  Interpolated values out out' r =
      Decided (interpolate_due values out) r
      (λ _. Takes O (length values) (root_of_order O (log2 (length values))) (coefficient O values) out')
      (out' ≡ out)

  -- out becomes the product u v; it must have a place for each coefficient (5)
  abbrev pub Multiplied : (u v out out' : List F) → Result (Unit {0}) Refused → Type 0
  Multiplied u v out out' r =
      Decided (unless (length out == product_length (length u) (length v)) 5 None) r
      (λ _. out' ≡ table (length out) (product_at O u v))
      (out' ≡ out)

  -- u has n coefficients, at least one, and out becomes the n - 1 coefficients of u² from n on; it must have a place for each (5)
  abbrev pub UpperSquared : (u out out' : List F) → Result (Unit {0}) Refused → Type 0
  UpperSquared u out out' r =
      Decided (unless (nat_lt 0 (length u) && length out == length u - 1) 5 None) r
      (λ _. out' ≡ table (length u - 1) (λ j. product_at O u u (length u + j)))
      (out' ≡ out)

  -- the same polynomial: every coefficient agrees, and one past the end is zero, so that the lengths may differ
  abbrev pub Equal : List F → List F → Type 0
  Equal u v = (i : ℕ) → coefficient O u i ≡ coefficient O v i
