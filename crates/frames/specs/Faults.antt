-- Checks in their order: what is owed is the first fault, by its number and its place in the file.
use Rattle.std.specs.Prelude.{ℕ, Bool, true, false, Some, None}
use Rattle.refusal.specs.Due.{Due}
use Rattle.refusal.specs.Numbers.{number_of}
use Rattle.refusal.specs.declared.refused.Refused.{Refused}

-- one check: the fault where it fails, else what the checks below say
abbrev pub check : Bool → ℕ → ℕ → Due → Due
check true number place below = below
check false number place below = Some (number, place)

-- the second checks count where the first find nothing
abbrev pub then : Due → Due → Due
then None below = below
then (Some fault) below = Some fault

-- what a refusal tells
abbrev pub told : Refused → Due
told e = Some (number_of e.reason, e.at)
