-- What quotient's answer says of the model that the sheet stands for.
use Rattle.std.proofs.Common.{◌≡◌, ℕ, ◌+◌, ◌-◌, ◌*◌, true, ◌⊎◌, List, length, Ok, Err, sym, subst, inl, inr, arith}
use Rattle.refusal.specs.Numbers.{number_of}
use Rattle.refusal.specs.declared.refused.Refused.{Refused}
use Rattle.field.specs.Operations.{Operations}
use Rattle.field.specs.Laws.{Laws}
use Rattle.transform.specs.Polynomial.{coefficient}
use Rattle.sheet.specs.Shape.{n, columns}
use Rattle.sheet.specs.Outcomes.{Answer}
use Rattle.sheet.specs.Model.{Model, Sheet, Stands}
use Rattle.square.specs.Rules.{all_inside}
use Rattle.square.specs.Rows.{position, AllHold, FirstFailing}
use Rattle.square.specs.Outcomes.{Divided}
use Rattle.square.proofs.FailingRow.{hold_or_fail}
use Rattle.runs.specs.Law.{Unsatisfied}
use Rattle.runs.proofs.Reading.{quotient_reads}
use Rattle.solving.specs.Solved.{QuotientIs, FailsAt}

module _ {F : Type 0} {O : Operations F} (L : Laws O) (b : Model F) (s : Sheet F) (stands : Stands O s b)
    (one : coefficient O b.values 0 ≡ O.one) (within : all_inside b.shape b.entries ≡ true)
    (h₀ h : List F) (work : ℕ) (h_size : length h₀ ≡ n b.shape - 1) (work_size : work ≡ columns b.shape + 4 * n b.shape) where
  abbrev Holds : Type 0
  Holds = AllHold O b.shape (position O b.entries) (coefficient O b.values)

  abbrev Fails : ℕ → Type 0
  Fails = FirstFailing O b.shape (position O b.entries) (coefficient O b.values)

  either : Holds ⊎ ((i : ℕ) × Fails i)
  either = hold_or_fail O b.shape (position O b.entries) (coefficient O b.values)

  -- granted: the quotient of the one pair that there is
  pub quotient_is : Divided O s.head s.entries s.values h₀ work (Ok tt) h → QuotientIs O b h
  quotient_is divides =
      let reads = quotient_reads L b s stands one within h₀ h work (Ok tt) h_size work_size divides in
      elim either [
        | inl holds ↦
            let told = reads.0 holds in
            record { holds = holds; z = _; pair = told.pair; only = told.only }
        | inr f ↦ absurd (reads.1 f.0 f.1).refused
      ]

  -- refused: a row fails, and there is no pair
  pub fails_at : (e : Refused) → Divided O s.head s.entries s.values h₀ work (Err e) h
      → (number_of e.reason ≡ 7) × FailsAt O b e.at × (h ≡ h₀)
  fails_at e divides =
      let reads = quotient_reads L b s stands one within h₀ h work (Err e) h_size work_size divides in
      elim either [
        | inl holds ↦ absurd (never (reads.0 holds).granted)
        | inr f ↦ found f.0 f.1 (reads.1 f.0 f.1)
      ]
    where
      never : ◌≡◌ {A = Answer} (Err e) (Ok tt) → ⊥
      never same = let z : ◌≡◌ {A = ℕ} 0 1 = cc in omega arith

      found : (i : ℕ) → Fails i → Unsatisfied O b i (Err e) h₀ h → (number_of e.reason ≡ 7) × FailsAt O b e.at × (h ≡ h₀)
      found i fails told =
          let here : FailsAt O b i = record { first = fails; none = told.none } in
          (told.refused.0, subst (FailsAt O b) (sym told.refused.1) here, told.unchanged)
