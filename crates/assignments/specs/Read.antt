-- What a reading does to a table.
use Rattle.std.specs.Prelude.{◌≡◌, ℕ, List, map, length, Result, MatchResult}
use Rattle.refusal.specs.Due.{Decided}
use Rattle.refusal.specs.declared.refused.Refused.{Refused}
use Rattle.field.specs.Operations.{Operations, ones}
use Rattle.assignments.specs.Assigned.{values, values_at, assigned}
use Rattle.assignments.specs.Assignment.{Encodes}

module _ {F : Type 0} (O : Operations F) where
  -- as the checks say: the table t becomes u, the file's values as elements; a refused reading changes nothing
  abbrev pub Checked : List ℕ → ℕ → List F → Result (Unit {0}) Refused → List F → Type 0
  Checked xs p t r u = Decided (assigned xs p (length t)) r (λ _. u ≡ map (ones O) (values xs (length t) (values_at xs))) (u ≡ t)

  -- granted where the bytes encode n values, which the table then holds; refused where they do not
  abbrev pub Reads : List ℕ → ℕ → ℕ → Result (Unit {0}) Refused → List F → Type 0
  Reads xs p n r u =
      MatchResult r
      (λ _. ((vs : List ℕ) × Encodes xs p n vs) × ((vs : List ℕ) → Encodes xs p n vs → u ≡ map (ones O) vs))
      (λ _. (vs : List ℕ) → ¬ Encodes xs p n vs)
