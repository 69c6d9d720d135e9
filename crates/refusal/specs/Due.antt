-- Which refusal a call owes, and what it means that a call answers as it owes.
use Rattle.std.specs.Prelude.{◌≡◌, ℕ, Bool, true, false, Some, None, Option, Result, MatchResult}
use Rattle.refusal.specs.Numbers.{number_of}
use Rattle.refusal.specs.declared.refused.Refused.{Refused}

-- what a call owes: nothing, or a refusal by its number and its place
abbrev pub Due : Type 0
Due = Option (ℕ × ℕ)

-- one line of the table of refusals: the number unless the test passes, else what the lines below say
abbrev pub unless : Bool → ℕ → Due → Due
unless true number below = below
unless false number below = Some (number, 0)

-- the same, where the test tells the first place that fails it
abbrev pub unless_at : Option ℕ → ℕ → Due → Due
unless_at None number below = below
unless_at (Some place) number below = Some (number, place)

-- granted, and then P, where nothing is owed; refused as owed, and then Q, otherwise
abbrev pub Decided : {T : Type 0} → Due → Result T Refused → (T → Type 0) → Type 0 → Type 0
Decided due r P Q = MatchResult r (λ x. (due ≡ None) × P x) (λ e. (due ≡ Some (number_of e.reason, e.at)) × Q)
