-- What the parts of a call do: with a sheet, and with an opened constraint file. old and new are the buffer before and after, r the answer.
use Rattle.std.specs.Prelude.{◌≡◌, ℕ, ◌*◌, true, List, ◌++◌, length, drop, MatchResult}
use Rattle.refusal.specs.Numbers.{number_of}
use Rattle.field.specs.Operations.{Operations}
use Rattle.transform.specs.Polynomial.{coefficient}
use Rattle.sheet.specs.Outcomes.{Answer}
use Rattle.sheet.specs.Model.{Model, sheet, Stands}
use Rattle.sheet.specs.declared.head.Head.{Head}
use Rattle.sheet.specs.declared.entry.Entry.{Entry}
use Rattle.square.specs.Rules.{all_inside}
use Rattle.constraints.specs.declared.reader.RowReader.{RowReader}
use Rattle.constraints.specs.Circuit.{Circuit, Proper}
use Rattle.constraints.specs.Reader.{again, Starts}
use Rattle.assignments.specs.Assignment.{value_bytes}
use Rattle.sapsheet_c.specs.Outcome.{Outcome, refused, quotient}
use Rattle.sapsheet_c.specs.Means.{SolvedWithin, MeansWith}

-- an outcome of which P holds: a quotient is written, and a refusal leaves the buffer alone
abbrev pub Answers : (P : Outcome → Type 0) (old : List ℕ) (r : Answer) (new : List ℕ) → Type 0
Answers P old r new =
    MatchResult r
    (λ _. (ns : List ℕ) × P (quotient ns) × (new ≡ value_bytes ns ++ drop (8 * length ns) old))
    (λ e. P (refused (number_of e.reason)) × (new ≡ old))

module _ {F : Type 0} (O : Operations F) (p : ℕ) where
  -- a sheet that stands for a model with one on wire 0 and each entry inside
  abbrev pub AnswersSheet : Head → List (Entry F) → List F → (old : List ℕ) (r : Answer) (new : List ℕ) → Type 0
  AnswersSheet h es vs old r new =
      (b : Model F) → Stands O (sheet h es vs) b → coefficient O b.values 0 ≡ O.one → all_inside b.shape b.entries ≡ true
      → Answers (SolvedWithin O p (length old) b) old r new

  -- a reader over the rows of a circuit over the field's prime, with the assignment file ws
  abbrev pub AnswersReader : RowReader → (ws old : List ℕ) (r : Answer) (new : List ℕ) → Type 0
  AnswersReader s ws old r new =
      (c : Circuit) → Starts (again s) c → Proper c → c.prime ≡ p → Answers (MeansWith O p c ws (length old)) old r new
