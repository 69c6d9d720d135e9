-- What make, enter and assign answer and leave, for all inputs.
use Rattle.std.specs.Prelude.{◌≡◌, ℕ, ◌+◌, ◌-◌, List, ◌∷◌, length, replicate, None, Result, slice_set}
use Rattle.refusal.specs.Due.{Decided}
use Rattle.refusal.specs.declared.refused.Refused.{Refused}
use Rattle.field.specs.Operations.{Operations}
use Rattle.sheet.specs.Shape.{Shape}
use Rattle.sheet.specs.Rules.{planned, make_due, enter_due, assign_due}
use Rattle.sheet.specs.declared.counts.Counts.{Counts}
use Rattle.sheet.specs.declared.head.Head.{Head}
use Rattle.sheet.specs.declared.entry.Entry.{Entry}

-- what a call answers that hands nothing back
abbrev pub Answer : Type 0
Answer = Result (Unit {0}) Refused

abbrev pub shape : (m l N : ℕ) → Shape
shape m l N = record { m = m; l = l; N = N }

abbrev pub counted : Counts → Shape
counted c = shape c.wires c.publics c.rows

abbrev pub shape_of : Head → Shape
shape_of h = shape h.wires h.publics h.rows

-- a head of this shape, with so many entries used; its other numbers follow from the shape
pub record Numbers (h : Head) (S : Shape) (used : ℕ) : Type 0 where
  pub wires : h.wires ≡ S.m
  pub publics : h.publics ≡ S.l
  pub rows : h.rows ≡ S.N
  pub count : h.used ≡ used

module _ {F : Type 0} where
  abbrev pub entry : (matrix row wire : ℕ) → F → Entry F
  entry matrix row wire x = record { matrix = matrix; row = row; wire = wire; coefficient = x }

  -- one on wire 0, zero on every other
  abbrev pub first_values : Operations F → (m : ℕ) → List F
  first_values O m = O.one ∷ replicate (m - 1) O.zero

  abbrev pub Planned : Operations F → Shape → Result Head Refused → Type 0
  Planned O S r = Decided (planned O S None) r (λ h. Numbers h S 0) (Unit {0})

  -- h is the new head, vs the value table before and vs' after
  abbrev pub Made : Operations F → Shape → List F → Result Head Refused → List F → Type 0
  Made O S vs r vs' =
      Decided (make_due O S (length vs)) r
      (λ h. Numbers h S 0 × (vs' ≡ first_values O S.m))
      (vs' ≡ vs)

  abbrev pub Entered : Head → List (Entry F) → (matrix row wire : ℕ) → F → Answer → Head → List (Entry F) → Type 0
  Entered h es matrix row wire x r h' es' =
      Decided (enter_due (shape_of h) h.used (length es) matrix row wire) r
      (λ _. Numbers h' (shape_of h) (h.used + 1) × (es' ≡ slice_set es h.used (entry matrix row wire x)))
      ((h' ≡ h) × (es' ≡ es))

  abbrev pub Assigned : Head → List F → (wire : ℕ) → F → Answer → List F → Type 0
  Assigned h vs wire x r vs' =
      Decided (assign_due (shape_of h) (length vs) wire) r (λ _. vs' ≡ slice_set vs wire x) (vs' ≡ vs)
