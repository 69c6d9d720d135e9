-- The outcome of two files, told from their bytes alone.
use Rattle.std.specs.Prelude.{◌≡◌, ℕ, zero, suc, ◌-◌, ◌<◌, ◌≤◌, min, cond, List, [], ◌∷◌, ◌++◌, length, drop, Some, Result, MatchResult, ◌==◌, nat_le}
use Rattle.refusal.specs.declared.refused.Refused.{Refused}
use Rattle.field.specs.Operations.{Operations}
use Rattle.frames.specs.Little.{Bytes}
use Rattle.frames.specs.Faults.{check, told}
use Rattle.modular.specs.Field97.{F97, ops97}
use Rattle.modular.specs.Field12289.{F12289, ops12289}
use Rattle.quadratic.specs.Doubled.{doubled}
use Rattle.quadratic.specs.Interleave.{interleave}
use Rattle.quadratic.specs.declared.quadratic.Quadratic.{Quadratic}
use Rattle.sheet.specs.Shape.{Shape, log_of_n}
use Rattle.sheet.specs.Rules.{in_limits}
use Rattle.sheet.specs.Outcomes.{Answer}
use Rattle.constraints.specs.Opened.{opened}
use Rattle.constraints.specs.declared.reader.RowReader.{RowReader}
use Rattle.constraints.specs.Circuit.{Circuit, Proper, Encodes}
use Rattle.constraints.specs.Reader.{again, Starts}
use Rattle.loading.specs.Loaded.{circuit_shape}
use Rattle.solving.specs.Primes.{prime_of}
use Rattle.writing.specs.declared.writer.Writer.{Writer}
use Rattle.report.specs.Outcome.{Outcome, RefusedOr, render, longest, Surveyed, Tells}

-- ── Fields ──

-- a field, and its elements by their coordinates
pub record Chosen : Type 1 where
  pub Element : Type 0
  pub ops : Operations Element
  pub coordinates : Element → List ℕ

-- the quadratic extension, its coordinates those of both parts in turn
abbrev pub twice : Chosen → Chosen
twice K =
    record {
      Element = Quadratic K.Element;
      ops = doubled K.ops;
      coordinates = λ x. interleave (K.coordinates x.a) (K.coordinates x.b);
    }

abbrev pub field97 : Chosen
field97 = record { Element = F97; ops = ops97; coordinates = λ x. x.value ∷ [] }

abbrev pub field12289 : Chosen
field12289 = record { Element = F12289; ops = ops12289; coordinates = λ x. x.value ∷ [] }

abbrev pub prime_field : (prime : ℕ) → Chosen
prime_field prime = cond (prime == 97) field97 field12289

-- doubled so many times
abbrev pub field_of : (prime doublings : ℕ) → Chosen
field_of prime zero = prime_field prime
field_of prime (suc d) = twice (field_of prime d)

-- the fewest doublings, at most two, with which the field has the subgroup; none outside the limits, where every field refuses
abbrev pub doublings : (prime : ℕ) → Shape → ℕ
doublings prime S = cond (in_limits S) (min (log_of_n S - (prime_field prime).ops.adicity) 2) 0

-- ── Files ──

-- the outcome of a circuit over a prime and an assignment file, over the field with the fewest doublings
abbrev pub ToldBy : (prime : ℕ) → Circuit → List ℕ → Outcome → Type 0
ToldBy prime c ws o =
    let d = doublings prime (circuit_shape c) in
    Surveyed (field_of prime d).ops (field_of prime d).coordinates prime d c ws o

-- the text of that outcome, of an opened constraint file over the prime
abbrev pub TellsBy : (prime : ℕ) → RowReader → (ws : List ℕ) (old : Writer) → Answer → (new : Writer) → Type 0
TellsBy prime s ws old r new = (c : Circuit) → Starts (again s) c → Proper c → c.prime ≡ prime → Tells (ToldBy prime c ws) old r new

-- the outcome of the bytes xs of a constraint file and ws of an assignment file
abbrev pub Means : List ℕ → List ℕ → Outcome → Type 0
Means xs ws o =
    RefusedOr (check (nat_le (length xs) longest) 5 0 (opened xs (prime_of xs))) o
    ((c : Circuit) × Encodes xs (prime_of xs) c × ToldBy (prime_of xs) c ws o)

-- bytes have one outcome only, and so one text
abbrev pub OneOutcome : Type 0
OneOutcome = (xs ws : List ℕ) (o o' : Outcome) → Bytes xs → Bytes ws → Means xs ws o → Means xs ws o' → o ≡ o'

-- ── The call ──

-- how long a text can be
abbrev pub text_room : ℕ
text_room = 32768

-- The text of the files' outcome stands at the front of the buffer, all else is as it was, and the answer is the text's length;
-- refused, with nothing changed, where the buffer is shorter than the text. No text is longer than its room.
pub record Written (xs ws old : List ℕ) (r : Result ℕ Refused) (new : List ℕ) : Type 0 where
  pub outcome : Outcome
  pub means : Means xs ws outcome
  pub fits : length (render outcome) ≤ text_room
  pub text :
      MatchResult r
      (λ size. (size ≡ length (render outcome)) × (length (render outcome) ≤ length old) × (new ≡ render outcome ++ drop size old))
      (λ e. (told e ≡ Some (13, 0)) × (length old < length (render outcome)) × (new ≡ old))
