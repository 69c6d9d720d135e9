-- Numbers and coordinates of a + bθ, from those of a and b.
use Rattle.std.proofs.Common.{◌≡◌, ℕ, ◌+◌, ◌-◌, ◌*◌, ◌/◌, ◌%◌, ◌<◌, ◌≤◌, List, length, get_or, IfSome, Some, None, Option, sym, refl, ap, ◌∙◌, arith, MatchOption}
use Rattle.field.specs.Operations.{Operations, ones}
use Rattle.field.specs.Laws.{Laws}
use Rattle.quadratic.specs.declared.quadratic.Quadratic.{Quadratic}
use Rattle.quadratic.specs.Doubled.{both, doubled}
use Rattle.quadratic.specs.Interleave.{interleave}
use Rattle.quadratic.specs.Doubling.{ones_below}
use Rattle.quadratic.proofs.Interleaving.{interleave_length, interleave_even, interleave_odd, interleave_injective}

-- what is known of an answer, made weaker in both cases
weaker : {A P P' : Type 0} {Q Q' : A → Type 0} (o : Option A) → MatchOption o P Q → (P → P') → ((x : A) → Q x → Q' x) → MatchOption o P' Q'
weaker None h f g = f h
weaker (Some x) h f g = g x h

-- the multiples of one are those a + bθ with b = 0 and a a multiple of one below
module _ {F : Type 0} {O : Operations F} (L : Laws O) where
  pub from_number : (x : Quadratic F) (v : ℕ) → x.b ≡ O.zero → x.a ≡ ones O v → x ≡ ones (doubled O) v
  from_number x v z e = both e z ∙ sym (ones_below L.ring v)

  number_of_a : (x : Quadratic F) (v : ℕ) → x ≡ ones (doubled O) v → x.a ≡ ones O v
  number_of_a x v e = ap (λ y. y.a) (e ∙ ones_below L.ring v)

  pub zero_b : (x : Quadratic F) (v : ℕ) → x ≡ ones (doubled O) v → x.b ≡ O.zero
  zero_b x v e = ap (λ y. y.b) (e ∙ ones_below L.ring v)

  pub number_below : (x : Quadratic F) (p : ℕ) (r : Option ℕ) → x.b ≡ O.zero
      → MatchOption r ((v : ℕ) → ¬ (x.a ≡ ones O v)) (λ v. (v < p) × (x.a ≡ ones O v))
      → MatchOption r ((v : ℕ) → ¬ (x ≡ ones (doubled O) v)) (λ v. (v < p) × (x ≡ ones (doubled O) v))
  number_below x p r z h = weaker r h (λ f v e. f v (number_of_a x v e)) (λ v q. (q.0, from_number x v z q.1))

  pub ones_vanish : (p : ℕ) → ones O p ≡ O.zero → ones (doubled O) p ≡ (doubled O).zero
  ones_vanish p e = ones_below L.ring p ∙ both e refl

  pub ones_distinct : (p : ℕ) → ((u v : ℕ) → u < p → v < p → ones O u ≡ ones O v → u ≡ v) → (u v : ℕ) → u < p → v < p → ones (doubled O) u ≡ ones (doubled O) v → u ≡ v
  ones_distinct p d u v h k e = d u v h k (sym (ap (λ y. y.a) (ones_below L.ring u)) ∙ number_of_a (ones (doubled O) u) v e)

-- coordinates of a at the even places, of b at the odd ones
module _ {F : Type 0} (of : F → List ℕ) (width : ℕ) (complete : (x : F) → length (of x) ≡ width) where
  abbrev interleaved : Quadratic F → List ℕ
  interleaved x = interleave (of x.a) (of x.b)

  one_length : (x : Quadratic F) → length (of x.a) ≡ length (of x.b)
  one_length x = complete x.a ∙ sym (complete x.b)

  pub doubled_complete : (x : Quadratic F) → length (interleaved x) ≡ 2 * width
  doubled_complete x = interleave_length (of x.a) (of x.b) width (complete x.a) (complete x.b)

  pub doubled_faithful : ((x y : F) → of x ≡ of y → x ≡ y) → (x y : Quadratic F) → interleaved x ≡ interleaved y → x ≡ y
  doubled_faithful f x y e =
      let parts = interleave_injective (of x.a) (of x.b) (of y.a) (of y.b) (one_length x) (one_length y) e in
      both (f x.a y.a parts.0) (f x.b y.b parts.1)

  module _ (p : ℕ) (x : Quadratic F) (i : ℕ) (r : Option ℕ) where
    pub even_coordinate : i % 2 ≡ 0
        → MatchOption r (width ≤ i / 2) (λ c. (i / 2 < width) × (c < p) × (c ≡ get_or (of x.a) (i / 2) 0))
        → MatchOption r (2 * width ≤ i) (λ c. (i < 2 * width) × (c < p) × (c ≡ get_or (interleaved x) i 0))
    even_coordinate e h =
        let j : i ≡ 2 * (i / 2) = omega arith in
        weaker r h (λ k. omega arith)
        (λ c q. (omega arith, q.1, q.2 ∙ sym (ap (λ (k : ℕ). get_or (interleaved x) k 0) j ∙ interleave_even (of x.a) (of x.b) (one_length x) (i / 2))))

    pub odd_coordinate : ¬ (i % 2 ≡ 0)
        → MatchOption r (width ≤ (i - 1) / 2) (λ c. ((i - 1) / 2 < width) × (c < p) × (c ≡ get_or (of x.b) ((i - 1) / 2) 0))
        → MatchOption r (2 * width ≤ i) (λ c. (i < 2 * width) × (c < p) × (c ≡ get_or (interleaved x) i 0))
    odd_coordinate d h =
        let j : i ≡ 2 * ((i - 1) / 2) + 1 = omega arith in
        weaker r h (λ k. omega arith)
        (λ c q. (omega arith, q.1, q.2 ∙ sym (ap (λ (k : ℕ). get_or (interleaved x) k 0) j ∙ interleave_odd (of x.a) (of x.b) (one_length x) ((i - 1) / 2))))

-- the width is even, so never 1
pub never_lone : (w : ℕ) (r : Option ℕ) (P : ℕ → Type 0) → IfSome r (λ c. 2 * w ≡ 1 → P c)
never_lone w None P = tt
never_lone w (Some c) P = λ e. absurd (omega arith)
