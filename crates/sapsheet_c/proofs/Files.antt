-- What is answered of two files follows from what fill answers and from what is answered of the sheet.
use Rattle.std.proofs.Common.{◌≡◌, ℕ, ◌≤◌, List, length, Some, None, Ok, Err, sym, refl, ap, ◌∙◌, subst, arith}
use Rattle.std.proofs.lemmas.Bool.{le-leb}
use Rattle.refusal.specs.Due.{Due}
use Rattle.refusal.specs.Numbers.{number_of}
use Rattle.refusal.specs.declared.refused.Refused.{Refused}
use Rattle.field.specs.Operations.{Operations}
use Rattle.field.specs.Laws.{Laws}
use Rattle.frames.specs.Faults.{check, then}
use Rattle.sheet.specs.Rules.{table_size}
use Rattle.sheet.specs.Outcomes.{Answer}
use Rattle.sheet.specs.Model.{sheet, Stands}
use Rattle.sheet.specs.declared.head.Head.{Head}
use Rattle.sheet.specs.declared.entry.Entry.{Entry}
use Rattle.constraints.specs.Circuit.{Circuit, Proper}
use Rattle.assignments.specs.Assigned.{assigned}
use Rattle.assignments.specs.Assignment.{Encodes}
use Rattle.loading.specs.Loaded.{circuit_due}
use Rattle.solving.specs.Taken.{files_model, sheet_due, witness_due}
use Rattle.solving.proofs.Files.{files_one, files_within, owed_by_files}
use Rattle.sapsheet_c.specs.Outcome.{Outcome}
use Rattle.sapsheet_c.specs.Means.{RefusedOr, SolvedWithin, MeansWith}
use Rattle.sapsheet_c.specs.Parts.{Answers, AnswersSheet}

-- what is answered of one outcome, answered of another
pub answers_map : {P Q : Outcome → Type 0} → ((o : Outcome) → P o → Q o) → (old : List ℕ) (r : Answer) (new : List ℕ) → Answers P old r new → Answers Q old r new
answers_map f old (Ok _) new (ns, holds, there) = (ns, f _ holds, there)
answers_map f old (Err e) new (holds, kept) = (f _ holds, kept)

module _ {F : Type 0} {O : Operations F} (L : Laws O) (p : ℕ) (c : Circuit) (proper : Proper c) (over : c.prime ≡ p) where
  abbrev Owes : (place : ℕ) (ws : List ℕ) (entries places : ℕ) → Due
  Owes place ws entries places = then (circuit_due O p place c entries places) (witness_due ws (length ws) p places)

  due_same : (place : ℕ) (ws : List ℕ) (entries places : ℕ) → entries ≡ table_size → (c.wires ≤ 2048 → places ≡ c.wires)
      → Owes place ws entries places ≡ then (sheet_due O c) (assigned ws p c.wires)
  due_same place ws entries places table fits =
      owed_by_files O p place c entries places (witness_due ws (length ws) p) over table fits
      ∙ ap (λ b. then (sheet_due O c) (check b 5 0 (assigned ws p c.wires))) (le-leb (length ws) (length ws) (omega arith))

  module _ (ws old : List ℕ) (place entries places : ℕ) (table : entries ≡ table_size) (fits : c.wires ≤ 2048 → places ≡ c.wires) where
    abbrev ComesTo : (r : Answer) (new : List ℕ) → Type 0
    ComesTo = Answers (MeansWith O p c ws (length old)) old

    at : (o : Outcome) (due : Due) → Owes place ws entries places ≡ due
        → RefusedOr due o ((vs : List ℕ) × Encodes ws p c.wires vs × SolvedWithin O p (length old) (files_model O c vs) o)
        → MeansWith O p c ws (length old) o
    at o due e x =
        subst (λ (d : Due). RefusedOr d o ((vs : List ℕ) × Encodes ws p c.wires vs × SolvedWithin O p (length old) (files_model O c vs) o))
        (sym e ∙ due_same place ws entries places table fits) x

    pub files_refused : (e : Refused) → Owes place ws entries places ≡ Some (number_of e.reason, e.at) → ComesTo (Err e) old
    files_refused e owed = (at _ _ owed refl, refl)

    pub files_taken : (h : Head) (es : List (Entry F)) (vs : List F) (r : Answer) (new : List ℕ) → Owes place ws entries places ≡ None
        → (zs : List ℕ) × Encodes ws p c.wires zs × Stands O (sheet h es vs) (files_model O c zs)
        → AnswersSheet O p h es vs old r new → ComesTo r new
    files_taken h es vs r new owed (zs, file, stands) answers =
        answers_map (λ o x. at o None owed (zs, file, x)) old r new
        (answers (files_model O c zs) stands (files_one L ws p c.wires zs file) (files_within O c proper))
