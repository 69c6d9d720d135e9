-- The outcome of a circuit with an assignment file, and its text.
use Rattle.std.proofs.Common.{◌≡◌, ℕ, min, List, length, Some, None, Ok, Err, sym, refl, ap, ◌∙◌, subst}
use native.Mathlib.Nat.{min-eq_left}
use Rattle.refusal.specs.Due.{Due}
use Rattle.refusal.specs.declared.refused.Refused.{Refused}
use Rattle.field.specs.Operations.{Operations}
use Rattle.field.specs.Laws.{Laws}
use Rattle.frames.specs.Faults.{then}
use Rattle.sheet.specs.Outcomes.{Answer}
use Rattle.sheet.specs.Model.{sheet}
use Rattle.sheet.specs.declared.head.Head.{Head}
use Rattle.sheet.specs.declared.entry.Entry.{Entry}
use Rattle.constraints.specs.declared.reader.RowReader.{RowReader}
use Rattle.constraints.specs.Circuit.{Circuit}
use Rattle.constraints.specs.Reader.{again, Starts}
use Rattle.loading.specs.Loaded.{circuit_due}
use Rattle.solving.specs.Taken.{files_model, sheet_due, witness_due, TakesFiles}
use Rattle.solving.proofs.Files.{files_one, files_within, owed_by_files}
use Rattle.writing.specs.declared.writer.Writer.{Writer}
use Rattle.report.specs.Outcome.{Outcome, refused, RefusedOr, Tells, longest, TellsModel, TellsCircuit}

-- what is said where a refusal is due, and where none is
pub due_refused : (P : Type 0) (o : Outcome) (due : Due) (f : ℕ × ℕ) → due ≡ Some f → o ≡ refused f.0 f.1 → RefusedOr due o P
due_refused P o due f e h = subst (λ d. RefusedOr d o P) (sym e) h

pub due_none : (P : Type 0) (o : Outcome) (due : Due) → due ≡ None → P → RefusedOr due o P
due_none P o due e h = subst (λ d. RefusedOr d o P) (sym e) h

-- what is told of one outcome, told of another
pub tells_map : {P Q : Outcome → Type 0} → ((o : Outcome) → P o → Q o) → (old new : Writer) (r : Answer) → Tells P old r new → Tells Q old r new
tells_map f old new (Ok _) (o, holds, text) = (o, f o holds, text)
tells_map f old new (Err e) (holds, kept) = (f _ holds, kept)

module _ {F : Type 0} {O : Operations F} (L : Laws O) (coordinates : F → List ℕ) (prime doublings : ℕ)
    (s : RowReader) (ws : List ℕ) (es : List (Entry F)) (vs : List F) (table : length es ≡ 2048) (places : length vs ≡ min s.header.wires 2048)
    (es' : List (Entry F)) (vs' : List F) (old : Writer) where
  -- what the tables owe is what the circuit owes
  owed : (c : Circuit) → Starts (again s) c → c.prime ≡ prime
      → then (circuit_due O prime s.prime_at c (length es) (length vs)) (witness_due ws longest prime (length vs))
      ≡ then (sheet_due O c) (witness_due ws longest prime c.wires)
  owed c starts same =
      owed_by_files O prime s.prime_at c (length es) (length vs) (witness_due ws longest prime) same table
      (λ few. places ∙ ap (λ w. min w 2048) starts.wires ∙ min-eq_left few)

  pub tells_filled : (h : Head) (new : Writer) → TakesFiles O prime s ws longest es vs (Ok h) es' vs'
      → TellsModel O coordinates prime doublings (sheet h es' vs') old new → TellsCircuit O coordinates prime doublings s ws old (Ok tt) new
  tells_filled h new takes tells c starts proper same =
      let told = takes c starts proper in
      let zs = told.1.0 in
      let text = tells (files_model O c zs) told.1.2 (files_one L ws prime c.wires zs told.1.1) (files_within O c proper) in
      (text.0, due_none _ text.0 _ (sym (owed c starts same) ∙ told.0) (zs, told.1.1, text.1), text.2)

  pub tells_refused : (e : Refused) → TakesFiles O prime s ws longest es vs (Err e) es' vs' → TellsCircuit O coordinates prime doublings s ws old (Err e) old
  tells_refused e takes c starts proper same =
      let told = takes c starts proper in
      (due_refused _ _ _ _ (sym (owed c starts same) ∙ told.0) refl, refl)
