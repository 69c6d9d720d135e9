-- What measuring answers.
use Rattle.std.specs.Prelude.{◌≡◌, ℕ, ◌≤◌, Bool, true, false, Option, MatchOption}

-- the size, which is at most so much, where every coefficient has a number; else none
abbrev pub Measured : (plain : Bool) (size most : ℕ) → Option ℕ → Type 0
Measured plain size most r = MatchOption r (plain ≡ false) (λ k. (plain ≡ true) × (k ≡ size) × (k ≤ most))
