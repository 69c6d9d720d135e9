-- Bytes come to one outcome only: a file encodes one thing, a model has one quotient, and an element one number.
use Rattle.std.proofs.Common.{◌≡◌, ℕ, ◌<◌, Bool, true, false, cond, List, [], ◌∷◌, map, Some, None, sym, refl, ap, ◌∙◌, subst, ap₂, inl, inr, arith}
use Rattle.std.specs.List.{AllByRecursion}
use Rattle.refusal.specs.Due.{Due}
use Rattle.field.specs.Operations.{Operations, ones}
use Rattle.modular.specs.Field97.{ops97}
use Rattle.modular.specs.Modular.{ones_distinct}
use Rattle.modular.proofs.Laws97.{residues97}
use Rattle.modular.specs.Field12289.{ops12289}
use Rattle.modular.proofs.Laws12289.{residues12289}
use Rattle.frames.specs.Little.{Bytes}
use Rattle.frames.specs.Faults.{then}
use Rattle.sheet.specs.Model.{Model}
use Rattle.constraints.specs.Opened.{opened}
use Rattle.constraints.specs.Circuit.{Circuit, Encodes as EncodesCircuit}
use Rattle.constraints.proofs.Single.{opens_exactly_lem}
use Rattle.assignments.specs.Assigned.{assigned}
use Rattle.assignments.specs.Assignment.{Encodes}
use Rattle.assignments.proofs.Stands.{reads_exactly_lem}
use Rattle.solving.specs.Taken.{files_model, sheet_due}
use Rattle.sapsheet_c.specs.Outcome.{Outcome, quotient}
use Rattle.sapsheet_c.specs.Means.{RefusedOr, Solved, SolvedWithin, MeansWith, MeansOver, is_other_prime, OneOutcome}

-- one outcome of what follows a check, one outcome of both
single_or : (due : Due) (o o' : Outcome) (P P' : Type 0) → (P → P' → o ≡ o') → RefusedOr due o P → RefusedOr due o' P' → o ≡ o'
single_or None o o' P P' h x y = h x y
single_or (Some q) o o' P P' h x y = x ∙ sym y

module _ {F : Type 0} (O : Operations F) (p : ℕ) (distinct : (u v : ℕ) → u < p → v < p → ones O u ≡ ones O v → u ≡ v) where
  numbers_same : (ns ms : List ℕ) → AllByRecursion (λ v. v < p) ns → AllByRecursion (λ v. v < p) ms → map (ones O) ns ≡ map (ones O) ms → ns ≡ ms
  numbers_same [] [] a b e = refl
  numbers_same [] (m ∷ ms) a b e = let z : ◌≡◌ {A = ℕ} 0 1 = cc in absurd (omega arith)
  numbers_same (n ∷ ns) [] a b e = let z : ◌≡◌ {A = ℕ} 0 1 = cc in absurd (omega arith)
  numbers_same (n ∷ ns) (m ∷ ms) a b e =
      let head : ones O n ≡ ones O m = cc in
      let tail : map (ones O) ns ≡ map (ones O) ms = cc in
      ap₂ (λ x l. x ∷ l) (distinct n m a.0 b.0 head) (numbers_same ns ms a.1 b.1 tail)

  solved_once : (b : Model F) (o o' : Outcome) → Solved O p b o → Solved O p b o' → o ≡ o'
  solved_once b o o' (inl (ns, is, all, e)) (inl (ms, is', all', e')) =
      let same = (is.only is'.z (map (ones O) ms) is'.pair).1 in
      e ∙ ap quotient (numbers_same ns ms all all' (sym same)) ∙ sym e'
  solved_once b o o' (inl (ns, is, all, e)) (inr (i, fails, e')) = absurd (fails.none is.z _ is.pair)
  solved_once b o o' (inr (i, fails, e)) (inl (ns, is, all, e')) = absurd (fails.none is.z _ is.pair)
  solved_once b o o' (inr (i, fails, e)) (inr (j, fails', e')) = e ∙ sym e'

  -- what follows where neither file owes a refusal
  abbrev Reads : Circuit → (ws : List ℕ) (room : ℕ) → Outcome → Type 0
  Reads c ws room o = (vs : List ℕ) × Encodes ws p c.wires vs × SolvedWithin O p room (files_model O c vs) o

  abbrev Opens : (xs ws : List ℕ) (room : ℕ) → Outcome → Type 0
  Opens xs ws room o = (c : Circuit) × EncodesCircuit xs p c × MeansWith O p c ws room o

  with_once : (c : Circuit) (ws : List ℕ) (room : ℕ) (o o' : Outcome) → Bytes ws → MeansWith O p c ws room o → MeansWith O p c ws room o' → o ≡ o'
  with_once c ws room o o' bytes =
      single_or (then (sheet_due O c) (assigned ws p c.wires)) o o' (Reads c ws room o) (Reads c ws room o')
      (λ x y.
      let same = (reads_exactly_lem ws p c.wires bytes).2 y.0 x.0 y.1 x.1 in
      single_or _ o o' _ _ (solved_once (files_model O c x.0) o o') x.2 (subst (λ (vs : List ℕ). SolvedWithin O p room (files_model O c vs) o') same y.2))

  over_once : (xs ws : List ℕ) (room : ℕ) (o o' : Outcome) → Bytes xs → Bytes ws → MeansOver O p xs ws room o → MeansOver O p xs ws room o' → o ≡ o'
  over_once xs ws room o o' bytes bytes' =
      single_or (opened xs p) o o' (Opens xs ws room o) (Opens xs ws room o')
      (λ x y.
      let same = (opens_exactly_lem xs p bytes).2 y.0 x.0 y.1 x.1 in
      with_once x.0 ws room o o' bytes' x.2 (subst (λ (c : Circuit). MeansWith O p c ws room o') same y.2))

either : (b : Bool) (A A' B B' C : Type 0) → (A → A' → C) → (B → B' → C) → cond b A B → cond b A' B' → C
either true A A' B B' C f g x y = f x y
either false A A' B B' C f g x y = g x y

pub one_outcome_lem : OneOutcome
one_outcome_lem xs ws room o o' bytes bytes' =
    either (is_other_prime (opened xs 97)) _ _ _ _ (o ≡ o')
    (over_once ops12289 12289 (ones_distinct residues12289) xs ws room o o' bytes bytes')
    (over_once ops97 97 (ones_distinct residues97) xs ws room o o' bytes bytes')
