-- What two files say, and the text that tells it.
use Rattle.std.specs.Prelude.{◌≡◌, ℕ, true, ◌⊎◌, List, ◌++◌, map, codes, MatchOption, MatchResult}
use Rattle.refusal.specs.Due.{Due}
use Rattle.refusal.specs.Numbers.{number_of}
use Rattle.field.specs.Operations.{Operations}
use Rattle.transform.specs.Polynomial.{coefficient}
use Rattle.square.specs.Rules.{all_inside}
use Rattle.frames.specs.Faults.{then}
use Rattle.sheet.specs.Shape.{n, k}
use Rattle.sheet.specs.Outcomes.{Answer}
use Rattle.sheet.specs.Model.{Model, Sheet, Stands}
use Rattle.constraints.specs.declared.reader.RowReader.{RowReader}
use Rattle.constraints.specs.Circuit.{Circuit, Proper}
use Rattle.constraints.specs.Reader.{again, Starts}
use Rattle.assignments.specs.Assignment.{Encodes}
use Rattle.runs.specs.Law.{PublicSum}
use Rattle.solving.specs.Taken.{files_model, sheet_due, witness_due}
use Rattle.solving.specs.Solved.{QuotientIs, FailsAt}
use Rattle.writing.specs.declared.writer.Writer.{Writer}
use Rattle.report.specs.Text.{Appended, numbers_line, elements_line}

pub data Outcome : Type 0 where
  -- a file is refused
  refused : (number place : ℕ) → Outcome
  -- a row fails
  failing : (prime doublings rows multiples row : ℕ) → Outcome
  -- the quotient and the public polynomial, each coefficient by its coordinates
  solved : (prime doublings rows multiples : ℕ) (quotient public : List (List ℕ)) → Outcome

-- the refusal that is due, or else what follows
abbrev pub RefusedOr : Due → Outcome → Type 0 → Type 0
RefusedOr due o follows = MatchOption due follows (λ fault. o ≡ refused fault.0 fault.1)

-- ── The text ──

-- prime and doublings, n and k
abbrev pub sheet_lines : (prime doublings n k : ℕ) → List ℕ
sheet_lines prime doublings n k = numbers_line (codes "field") prime doublings ++ numbers_line (codes "rows") n k

abbrev pub refused_line : (number place : ℕ) → List ℕ
refused_line = numbers_line (codes "refused")

unfoldable pub render : Outcome → List ℕ
render (refused number place) = refused_line number place
render (failing p d n k row) = sheet_lines p d n k ++ refused_line 7 row
render (solved p d n k quotient public) = sheet_lines p d n k ++ (elements_line (codes "quotient") quotient ++ elements_line (codes "public") public)

-- the text of an outcome is written
abbrev pub Renders : (Outcome → Type 0) → (old new : Writer) → Type 0
Renders P old new = (o : Outcome) × P o × Appended old (render o) new

-- the same, but a refused file is answered, and nothing is written of it
abbrev pub Tells : (Outcome → Type 0) → (old : Writer) → Answer → (new : Writer) → Type 0
Tells P old r new = MatchResult r (λ _. Renders P old new) (λ e. P (refused (number_of e.reason) e.at) × (new ≡ old))

-- ── At a field ──

-- how many bytes a file may have
abbrev pub longest : ℕ
longest = 65536

module _ {F : Type 0} (O : Operations F) (coordinates : F → List ℕ) (prime doublings : ℕ) where
  -- of a sheet: the only quotient and the public polynomial, or the first row that fails where there is no quotient
  abbrev pub Answered : Model F → Outcome → Type 0
  Answered b o =
      ((h p : List F) × QuotientIs O b h × PublicSum O b p
      × (o ≡ solved prime doublings (n b.shape) (k b.shape) (map coordinates h) (map coordinates p)))
      ⊎ ((i : ℕ) × FailsAt O b i × (o ≡ failing prime doublings (n b.shape) (k b.shape) i))

  -- of a circuit and an assignment file: the first refusal, or what is to be said of the sheet
  abbrev pub Surveyed : Circuit → List ℕ → Outcome → Type 0
  Surveyed c ws o =
      RefusedOr (then (sheet_due O c) (witness_due ws longest prime c.wires)) o
      ((vs : List ℕ) × Encodes ws prime c.wires vs × Answered (files_model O c vs) o)

  -- the text of a sheet's outcome: of a sheet that stands for a model with one on wire 0 and entries within the sheet
  abbrev pub TellsModel : Sheet F → (old new : Writer) → Type 0
  TellsModel s old new =
      (b : Model F) → Stands O s b → coefficient O b.values 0 ≡ O.one → all_inside b.shape b.entries ≡ true
      → Renders (Answered b) old new

  -- and of an opened constraint file, over the field's prime, with the assignment file ws
  abbrev pub TellsCircuit : RowReader → (ws : List ℕ) (old : Writer) → Answer → (new : Writer) → Type 0
  TellsCircuit s ws old r new = (c : Circuit) → Starts (again s) c → Proper c → c.prime ≡ prime → Tells (Surveyed c ws) old r new
