-- The row that is reported: none just where all rows hold, and row i just where row i is the first that fails.
use Rattle.std.proofs.Common.{◌≡◌, ℕ, zero, suc, ◌+◌, ◌<◌, ◌≤◌, Bool, true, false, ◌⊎◌, ◌↔◌, Some, None, Option, not, find, option_map, sym, refl, ap, ◌∙◌, subst, inl, inr, arith}
use Rattle.std.specs.List.{range_with_len}
use Rattle.std.proofs.lemmas.Bool.{cases_Bool, cases_eq, cond-true, cond-false}
use Rattle.field.specs.Operations.{Operations, decided}
use Rattle.field.proofs.Decided.{decided_yes, decided_no, yes_decided, no_decided}
use Rattle.sheet.specs.Shape.{Shape}
use Rattle.square.specs.Rows.{first_failure, row_sum, Holds, AllHold, FirstFailing, failing_row}

-- ── The first failure of a test ──

module _ (test : ℕ → Bool) where
  -- to look for the first that fails, from 0 on
  failure_found : (count i : ℕ) → find (λ j. not (test j)) (range_with_len i count) ≡ first_failure test count i
  unfolding first_failure
  failure_found zero i = refl
  failure_found (suc count) i =
      elim (cases_Bool (test i)) [
        | inl t ↦ rw t (failure_found count (i + 1))
        | inr t ↦ rw t refl
      ]

  -- from, from + 1, .., to - 1 pass
  abbrev Passes : (from to : ℕ) → Type 0
  Passes from to = (d : ℕ) → from ≤ d → d < to → test d ≡ true

  passes_one : (i to : ℕ) → test i ≡ true → Passes (i + 1) to → Passes i to
  passes_one i to t p d a b =
      elim (cases_eq i d) [
        | inl e ↦ ap test (sym e) ∙ t
        | inr e ↦ p d (omega arith) b
      ]

  -- r is the first of i, i + 1, .., i + count - 1 that fails
  record First (count i r : ℕ) : Type 0 where
    from : i ≤ r
    to : r < i + count
    fails : test r ≡ false
    before : Passes i r

  passes_none : (count i : ℕ) → Passes i (i + count) → first_failure test count i ≡ None
  unfolding first_failure
  passes_none zero i p = refl
  passes_none (suc count) i p =
      cond-true (test i) _ _ (p i (omega arith) (omega arith)) ∙ passes_none count (i + 1) (λ d a b. p d (omega arith) (omega arith))

  first_some : (count i r : ℕ) → First count i r → first_failure test count i ≡ Some r
  unfolding first_failure
  first_some zero i r f = absurd (omega arith)
  first_some (suc count) i r f =
      elim (cases_eq i r) [
        | inl e ↦ cond-false (test i) _ _ (ap test e ∙ f.fails) ∙ ap Some e
        | inr e ↦ cond-true (test i) _ _ (f.before i (omega arith) (omega arith)) ∙ first_some count (i + 1) r (later e)
      ]
    where
      later : ¬ (i ≡ r) → First count (i + 1) r
      later e = record { from = omega arith; to = omega arith; fails = f.fails; before = λ d a b. f.before d (omega arith) b }

  passes_or_first : (count i : ℕ) → Passes i (i + count) ⊎ ((r : ℕ) × First count i r)
  passes_or_first zero i = inl (λ d a b. absurd (omega arith))
  passes_or_first (suc count) i =
      elim (cases_Bool (test i)) [
        | inl t ↦ elim (passes_or_first count (i + 1)) [
          | inl p ↦ inl (λ d a b. passes_one i (i + 1 + count) t p d a (omega arith))
          | inr f ↦ inr (f.0, earlier t f.0 f.1)
        ]
        | inr t ↦ inr (i, record { from = omega arith; to = omega arith; fails = t; before = λ d a b. absurd (omega arith) })
      ]
    where
      earlier : test i ≡ true → (r : ℕ) → First count (i + 1) r → First (suc count) i r
      earlier t r f = record { from = omega arith; to = omega arith; fails = f.fails; before = passes_one i r t f.before }

-- ── The rows ──

some≢none : {r : Option ℕ} {i : ℕ} → r ≡ Some i → r ≡ None → ⊥
some≢none p q = cc

same_place : {r : Option ℕ} {i j : ℕ} → r ≡ Some i → r ≡ Some j → i ≡ j
same_place p q = cc

module _ {F : Type 0} (O : Operations F) (S : Shape) (c : (matrix row wire : ℕ) → F) (z : ℕ → F) where
  open O use {mul as ◌⊗◌, same}

  infixl 70 ◌⊗◌
  -- whether row i holds
  abbrev holds? : (i : ℕ) → Dec (Holds O S c z i)
  holds? i = same (row_sum O S c z 0 i ⊗ row_sum O S c z 1 i) (row_sum O S c z 2 i)

  abbrev pub test : ℕ → Bool
  test i = decided (holds? i)

  -- the search for a row that does not hold finds it
  pub failing_row_found : (r : Option ℕ) → option_map (λ i. i) r ≡ find (λ i. not (test i)) (range_with_len 0 S.N) → r ≡ failing_row O S c z
  unfolding failing_row
  failing_row_found None h = h ∙ failure_found test S.N 0
  failing_row_found (Some i) h = h ∙ failure_found test S.N 0

  pub all_hold_none : AllHold O S c z → failing_row O S c z ≡ None
  unfolding failing_row
  all_hold_none h = passes_none test S.N 0 (λ d _ l. decided_yes (holds? d) (h d (omega arith)))

  pub first_failing_some : (i : ℕ) → FirstFailing O S c z i → failing_row O S c z ≡ Some i
  unfolding failing_row
  first_failing_some i f =
      let within : i < S.N = f.row in
      first_some test S.N 0 i
      (record { from = omega arith; to = omega arith; fails = decided_no (holds? i) f.fails; before = λ d _ l. decided_yes (holds? d) (f.before d l) })

  pub hold_or_fail : AllHold O S c z ⊎ ((i : ℕ) × FirstFailing O S c z i)
  hold_or_fail =
      elim (passes_or_first test S.N 0) [
        | inl p ↦ inl (λ d l. yes_decided (holds? d) (p d (omega arith) (omega arith)))
        | inr f ↦ inr (f.0, fails f.0 f.1)
      ]
    where
      fails : (i : ℕ) → First test S.N 0 i → FirstFailing O S c z i
      fails i f =
          record { row = omega arith; fails = no_decided (holds? i) f.fails; before = λ d l. yes_decided (holds? d) (f.before d (omega arith) l) }

  pub none_iff_all_hold : (failing_row O S c z ≡ None) ↔ AllHold O S c z
  none_iff_all_hold = (back, all_hold_none)
    where
      back : failing_row O S c z ≡ None → AllHold O S c z
      back e =
          elim hold_or_fail [
            | inl h ↦ h
            | inr f ↦ absurd (some≢none (first_failing_some f.0 f.1) e)
          ]

  pub some_iff_first_failing : (i : ℕ) → (failing_row O S c z ≡ Some i) ↔ FirstFailing O S c z i
  some_iff_first_failing i = (back, first_failing_some i)
    where
      back : failing_row O S c z ≡ Some i → FirstFailing O S c z i
      back e =
          elim hold_or_fail [
            | inl h ↦ absurd (some≢none e (all_hold_none h))
            | inr f ↦ subst (FirstFailing O S c z) (same_place (first_failing_some f.0 f.1) e) f.1
          ]
