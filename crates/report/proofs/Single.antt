-- Two files have one outcome only: a file encodes one thing, a model has one quotient, one public polynomial and one first failing row.
use Rattle.std.proofs.Common.{◌≡◌, ℕ, ◌<◌, leb, List, [], map, length, Some, None, sym, ap, ◌∙◌, subst, ap₂, inl, inr}
use native.Mathlib.Decide.{dec_lt}
use Rattle.refusal.specs.Due.{Due}
use Rattle.field.specs.Operations.{Operations, sum}
use Rattle.transform.specs.Polynomial.{coefficient}
use Rattle.transform.proofs.Tables.{is_table}
use Rattle.frames.specs.Little.{Bytes}
use Rattle.frames.specs.Faults.{check, then}
use Rattle.sheet.specs.Shape.{n, k}
use Rattle.sheet.specs.Model.{Model}
use Rattle.square.specs.Rows.{position, FirstFailing}
use Rattle.square.specs.Polynomials.{Column}
use Rattle.square.proofs.FailingRow.{first_failing_some}
use Rattle.runs.specs.Law.{PublicSum}
use Rattle.constraints.specs.Opened.{opened}
use Rattle.constraints.specs.Circuit.{Circuit, Encodes as EncodesCircuit}
use Rattle.constraints.proofs.Single.{opens_exactly_lem}
use Rattle.assignments.specs.Assignment.{Encodes}
use Rattle.assignments.proofs.Stands.{reads_exactly_lem}
use Rattle.loading.specs.Loaded.{circuit_shape}
use Rattle.solving.specs.Taken.{files_model, sheet_due, witness_due}
use Rattle.report.specs.Outcome.{Outcome, failing, solved, RefusedOr, longest, Answered, Surveyed}
use Rattle.solving.specs.Primes.{prime_of}
use Rattle.report.specs.Means.{field_of, doublings, ToldBy, OneOutcome}

-- one outcome of what follows a check, one outcome of both
single_or : (due : Due) (o o' : Outcome) (P P' : Type 0) → (P → P' → o ≡ o') → RefusedOr due o P → RefusedOr due o' P' → o ≡ o'
single_or None o o' P P' h x y = h x y
single_or (Some q) o o' P P' h x y = x ∙ sym y

module _ {F : Type 0} (O : Operations F) (b : Model F) where
  open b use {shape, entries, values}
  open O use {zero as 𝟘, mul as ◌⊗◌}

  infixl 70 ◌⊗◌
  abbrev c : (matrix row wire : ℕ) → F
  c = position O entries

  -- the columns of the public wires
  columns_of : (p : List F) → PublicSum O b p → ℕ → List F
  columns_of p s j = elim (dec_lt j shape.l) [ yes h ↦ (s.columns j h).0 | no _ ↦ [] ]

  are_columns : (p : List F) (s : PublicSum O b p) (j : ℕ) → j < shape.l → Column O shape c j (columns_of p s j)
  unfolding columns_of
  are_columns p s j h =
      elim (dec_lt j shape.l) as (λ d. Column O shape c j (elim d [ yes h ↦ (s.columns j h).0 | no _ ↦ [] ])) [ yes k ↦ (s.columns j k).1 | no d ↦ absurd (d h) ]

  pub public_once : (p p' : List F) → PublicSum O b p → PublicSum O b p' → p ≡ p'
  public_once p p' s s' =
      let column = columns_of p s in
      let f = λ (e : ℕ). sum O shape.l (λ j. coefficient O values j ⊗ coefficient O (column j) e) in
      is_table 𝟘 p (n shape) f s.size (λ e h. sym (s.sums column (are_columns p s) e h))
      ∙ sym (is_table 𝟘 p' (n shape) f s'.size (λ e h. sym (s'.sums column (are_columns p s) e h)))

  abbrev First : ℕ → Type 0
  First = FirstFailing O shape c (coefficient O values)

  first_once : (i j : ℕ) → First i → First j → i ≡ j
  first_once i j f g =
      let at = first_failing_some O shape c (coefficient O values) i f in
      let at' = first_failing_some O shape c (coefficient O values) j g in
      cc

module _ {F : Type 0} (O : Operations F) (coordinates : F → List ℕ) (prime d : ℕ) where
  answered_once : (b : Model F) (o o' : Outcome) → Answered O coordinates prime d b o → Answered O coordinates prime d b o' → o ≡ o'
  answered_once b o o' (inl (h, p, is, sums, e)) (inl (h', p', is', sums', e')) =
      e ∙ ap₂ (λ x y. solved prime d (n b.shape) (k b.shape) (map coordinates x) (map coordinates y)) (sym (is.only is'.z h' is'.pair).1) (public_once O b p p' sums sums') ∙ sym e'
  answered_once b o o' (inl (h, p, is, sums, e)) (inr (i, fails, e')) = absurd (fails.none is.z h is.pair)
  answered_once b o o' (inr (i, fails, e)) (inl (h, p, is, sums, e')) = absurd (fails.none is.z h is.pair)
  answered_once b o o' (inr (i, fails, e)) (inr (j, fails', e')) = e ∙ ap (failing prime d (n b.shape) (k b.shape)) (first_once O b i j fails.first fails'.first) ∙ sym e'

  -- what follows where neither file owes a refusal
  abbrev Reads : Circuit → List ℕ → Outcome → Type 0
  Reads c ws o = (vs : List ℕ) × Encodes ws prime c.wires vs × Answered O coordinates prime d (files_model O c vs) o

  surveyed_once : (c : Circuit) (ws : List ℕ) (o o' : Outcome) → Bytes ws → Surveyed O coordinates prime d c ws o → Surveyed O coordinates prime d c ws o' → o ≡ o'
  surveyed_once c ws o o' bytes =
      single_or (then (sheet_due O c) (witness_due ws longest prime c.wires)) o o' (Reads c ws o) (Reads c ws o')
      (λ x y.
      let same = (reads_exactly_lem ws prime c.wires bytes).2 y.0 x.0 y.1 x.1 in
      answered_once (files_model O c x.0) o o' x.2 (subst (λ (vs : List ℕ). Answered O coordinates prime d (files_model O c vs) o') same y.2))

abbrev Opens : (xs ws : List ℕ) → Outcome → Type 0
Opens xs ws o = (c : Circuit) × EncodesCircuit xs (prime_of xs) c × ToldBy (prime_of xs) c ws o

pub one_outcome_lem : OneOutcome
one_outcome_lem xs ws o o' bytes bytes' =
    single_or (check (leb (length xs) longest) 5 0 (opened xs (prime_of xs))) o o' (Opens xs ws o) (Opens xs ws o')
    (λ x y.
    let same = (opens_exactly_lem xs (prime_of xs) bytes).2 y.0 x.0 y.1 x.1 in
    let p = prime_of xs in
    let e = doublings p (circuit_shape x.0) in
    surveyed_once (field_of p e).ops (field_of p e).coordinates p e x.0 ws o o' bytes' x.2 (subst (λ (c : Circuit). ToldBy p c ws o') same y.2))
