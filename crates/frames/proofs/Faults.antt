-- How checks follow one another.
use Rattle.std.proofs.Common.{◌≡◌, ℕ, Bool, true, false, Option, Some, None, Err, refl, arith}
use Rattle.std.specs.Option.{ok_or}
use Rattle.refusal.specs.Due.{Due}
use Rattle.refusal.specs.Numbers.{number_of}
use Rattle.refusal.specs.declared.reason.Refusal.{Refusal}
use Rattle.refusal.specs.declared.refused.Refused.{Refused}
use Rattle.frames.specs.Faults.{check, then, told}

-- a first check that stops, and one that goes on
pub stops : (v w : Due) (f : ℕ × ℕ) → v ≡ Some f → then v w ≡ Some f
stops v w f e = rw e

pub goes : (v w : Due) → v ≡ None → then v w ≡ w
goes v w e = rw e

pub no_fault : (f : ℕ × ℕ) → ◌≡◌ {A = Due} (Some f) None → ⊥
no_fault f e = let z : ◌≡◌ {A = ℕ} 0 1 = cc in omega arith

pub then_both : (v w : Due) → then v w ≡ None → (v ≡ None) × (w ≡ None)
then_both None w e = (refl, e)
then_both (Some f) w e = absurd (no_fault f e)

-- a test that was passed
pub passed : (b : Bool) (v : Due) (n at : ℕ) → check b n at v ≡ None → (b ≡ true) × (v ≡ None)
passed true v n at e = (refl, e)
passed false v n at e = absurd (no_fault (n, at) e)

-- what a refusal made at a place tells
pub told_at : (e : Refused) (reason : Refusal) (at : ℕ) → (e.reason ≡ reason) × (e.at ≡ at) → told e ≡ Some (number_of reason, at)
told_at e reason at h = rw (h.0, h.1)

-- what is missing where `ok_or` refuses, and by which refusal
pub missing : {T : Type 0} → (o : Option T) (e d : Refused) → Err d ≡ ok_or o e → (o ≡ None) × (d ≡ e)
missing None e d h = (refl, cc)
missing (Some x) e d h = absurd (cc)
