-- What the bytes of a constraint file and of an assignment file, with room for so many bytes, come to: by the order of the checks.
use Rattle.std.specs.Prelude.{◌≡◌, ℕ, ◌-◌, ◌*◌, ◌<◌, Bool, false, cond, ◌⊎◌, List, map, Some, None, MatchOption, ◌==◌, nat_le}
use Rattle.std.specs.List.{AllByRecursion}
use Rattle.refusal.specs.Due.{Due, unless}
use Rattle.field.specs.Operations.{Operations, ones}
use Rattle.modular.specs.Field97.{ops97}
use Rattle.modular.specs.Field12289.{ops12289}
use Rattle.frames.specs.Little.{Bytes}
use Rattle.frames.specs.Faults.{then}
use Rattle.sheet.specs.Shape.{n}
use Rattle.sheet.specs.Model.{Model}
use Rattle.constraints.specs.Opened.{opened}
use Rattle.constraints.specs.Circuit.{Circuit, Encodes as EncodesCircuit}
use Rattle.assignments.specs.Assigned.{assigned}
use Rattle.assignments.specs.Assignment.{Encodes}
use Rattle.solving.specs.Taken.{files_model, sheet_due}
use Rattle.solving.specs.Solved.{QuotientIs, FailsAt}
use Rattle.sapsheet_c.specs.Outcome.{Outcome, refused, quotient}

-- the refusal that is due, by its number, or else what follows
abbrev pub RefusedOr : Due → Outcome → Type 0 → Type 0
RefusedOr due o follows = MatchOption due follows (λ q. o ≡ refused q.0)

-- p is the prime of the field
module _ {F : Type 0} (O : Operations F) (p : ℕ) where
  -- every row holds, and these are the numbers of the one quotient; or a row fails, and there is none
  abbrev pub Solved : Model F → Outcome → Type 0
  Solved b o =
      ((ns : List ℕ) × QuotientIs O b (map (ones O) ns) × AllByRecursion (λ v. v < p) ns × (o ≡ quotient ns))
      ⊎ ((row : ℕ) × FailsAt O b row × (o ≡ refused 7))

  abbrev pub SolvedWithin : (room : ℕ) → Model F → Outcome → Type 0
  SolvedWithin room b o = RefusedOr (unless (nat_le (8 * (n b.shape - 1)) room) 13 None) o (Solved b o)

  -- a circuit with the assignment file ws
  abbrev pub MeansWith : Circuit → (ws : List ℕ) (room : ℕ) → Outcome → Type 0
  MeansWith c ws room o =
      RefusedOr (then (sheet_due O c) (assigned ws p c.wires)) o
      ((vs : List ℕ) × Encodes ws p c.wires vs × SolvedWithin room (files_model O c vs) o)

  -- the constraint file xs, over this prime, with the assignment file ws
  abbrev pub MeansOver : (xs ws : List ℕ) (room : ℕ) → Outcome → Type 0
  MeansOver xs ws room o = RefusedOr (opened xs p) o ((c : Circuit) × EncodesCircuit xs p c × MeansWith c ws room o)

-- whether the refusal that is due says that a file is over another prime
abbrev pub is_other_prime : Due → Bool
is_other_prime None = false
is_other_prime (Some q) = q.0 == 9

-- over 97, or, where the constraint file is over another prime, over 12289
abbrev pub Means : (xs ws : List ℕ) (room : ℕ) → Outcome → Type 0
Means xs ws room o =
    cond (is_other_prime (opened xs 97)) (MeansOver ops12289 12289 xs ws room o) (MeansOver ops97 97 xs ws room o)

-- bytes come to one outcome only
abbrev pub OneOutcome : Type 0
OneOutcome =
    (xs ws : List ℕ) (room : ℕ) (o o' : Outcome) → Bytes xs → Bytes ws → Means xs ws room o → Means xs ws room o' → o ≡ o'
