-- Which prime a constraint file is read over.
use Rattle.std.proofs.Common.{◌≡◌, false, cond, eqb, List, ℕ, Some, refl, ap, ◌∙◌}
use Rattle.refusal.specs.Numbers.{number_of}
use Rattle.refusal.specs.declared.reason.Refusal.{Refusal}
use Rattle.refusal.specs.declared.reason.Refusal.TheVariants.{OutOfLimits, NoRoot, OutOfRange, TableFull, WrongLength, Inconsistent, RowFails, BadLayout, OtherPrime, TooLarge, WrongCount, NotANumber, BufferTooShort}
use Rattle.refusal.specs.declared.refused.Refused.{Refused}
use Rattle.constraints.specs.Opened.{opened}
use Rattle.solving.specs.Primes.{prime_by, prime_of}

other_reason : (r : Refusal) → ¬ (r ≡ OtherPrime) → eqb (number_of r) 9 ≡ false
other_reason OutOfLimits h = refl
other_reason NoRoot h = refl
other_reason OutOfRange h = refl
other_reason TableFull h = refl
other_reason WrongLength h = refl
other_reason Inconsistent h = refl
other_reason RowFails h = refl
other_reason BadLayout h = refl
other_reason OtherPrime h = absurd (h refl)
other_reason TooLarge h = refl
other_reason WrongCount h = refl
other_reason NotANumber h = refl
other_reason BufferTooShort h = refl

pub prime_stays : (xs : List ℕ) (e : Refused) → opened xs 97 ≡ Some (number_of e.reason, e.at) → ¬ (e.reason ≡ OtherPrime) → prime_of xs ≡ 97
prime_stays xs e owed h = ap prime_by owed ∙ ap (λ b. cond b 12289 97) (other_reason e.reason h)
