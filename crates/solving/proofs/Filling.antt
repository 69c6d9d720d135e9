-- A constraint file loaded, then an assignment file read.
use Rattle.std.proofs.Common.{◌≡◌, ℕ, ◌<◌, ◌≤◌, List, map, length, Some, None, Ok, sym, ap, ◌∙◌, subst}
use Rattle.std.proofs.lemmas.Bool.{le-leb, lt-leb}
use Rattle.refusal.specs.Due.{Due}
use Rattle.field.specs.Operations.{Operations, ones}
use Rattle.frames.specs.Faults.{check, then}
use Rattle.frames.proofs.Faults.{goes}
use Rattle.sheet.specs.Model.{sheet, Stands}
use Rattle.sheet.specs.declared.head.Head.{Head}
use Rattle.sheet.specs.declared.entry.Entry.{Entry}
use Rattle.constraints.specs.Circuit.{Circuit}
use Rattle.assignments.specs.Assigned.{assigned}
use Rattle.assignments.specs.Assignment.{Encodes}
use Rattle.assignments.specs.Read.{Reads}
use Rattle.loading.specs.Loaded.{loaded_model}
use Rattle.solving.specs.Taken.{files_model, witness_due}

-- what is owed once the first file owes nothing
pub too_long : (first : Due) (ws : List ℕ) (most p places : ℕ) → first ≡ None → most < length ws → then first (witness_due ws most p places) ≡ Some (5, 0)
too_long first ws most p places e h = goes first _ e ∙ ap (λ b. check b 5 0 (assigned ws p places)) (lt-leb (length ws) most h)

pub as_read : (first : Due) (ws : List ℕ) (most p places now : ℕ) → first ≡ None → length ws ≤ most → now ≡ places
    → then first (witness_due ws most p places) ≡ assigned ws p now
as_read first ws most p places now e h same =
    goes first _ e ∙ ap (λ b. check b 5 0 (assigned ws p places)) (le-leb (length ws) most h) ∙ ap (assigned ws p) (sym same)

module _ {F : Type 0} (O : Operations F) (c : Circuit) (h : Head) (es : List (Entry F)) (v w : List F) where
  -- the values of the second file in the sheet of the first
  with_values : (zs : List ℕ) → Stands O (sheet h es v) (loaded_model O c) → length w ≡ length v → w ≡ map (ones O) zs → Stands O (sheet h es w) (files_model O c zs)
  with_values zs stands size values =
      record {
        numbers = stands.numbers;
        table = stands.table;
        used = stands.used;
        places = size ∙ stands.places;
        values = values;
        root = stands.root;
      }

  pub filled : (ws : List ℕ) (p : ℕ) → Stands O (sheet h es v) (loaded_model O c) → length w ≡ length v → Reads O ws p (length v) (Ok tt) w
      → (zs : List ℕ) × Encodes ws p c.wires zs × Stands O (sheet h es w) (files_model O c zs)
  filled ws p stands size reads =
      let found = reads.0 in
      (found.0, subst (λ n. Encodes ws p n found.0) stands.places found.1, with_values found.0 stands size (reads.1 found.0 found.1))
