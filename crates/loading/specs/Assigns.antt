-- A reading into a sheet's value table, as assigns that are all granted.
use Rattle.std.specs.Prelude.{◌≡◌, ℕ, ◌+◌, List, [], ◌∷◌, map, length, drop, Ok, slice_index, slice_index_or}
use Rattle.field.specs.Operations.{Operations, ones}
use Rattle.sheet.specs.Outcomes.{Answer}
use Rattle.sheet.specs.Model.{sheet}
use Rattle.sheet.specs.declared.head.Head.{Head}
use Rattle.sheet.specs.declared.entry.Entry.{Entry}
use Rattle.sheet.specs.declared.call.Call.{Call}
use Rattle.sheet.specs.declared.call.Call.TheVariants.{Assign}
use Rattle.runs.specs.Runs.{Run}
use Rattle.assignments.specs.Assignment.{Encodes}
use Rattle.assignments.specs.Read.{Reads}

-- an answer to each call, and every one granted
abbrev pub granted : {F : Type 0} → List (Call F) → List Answer
granted = map (λ _. Ok tt)

module _ {F : Type 0} (O : Operations F) where
  -- these numbers on a wire and those that follow it, in a table of so many places
  abbrev pub assigns_from : (places wire : ℕ) → List ℕ → List (Call F)
  assigns_from places wire [] = []
  assigns_from places wire (v ∷ vs) = Assign places wire (ones O v) ∷ assigns_from places (wire + 1) vs

  -- all but the first, which stands on wire 0
  abbrev pub assigns : (places : ℕ) → List ℕ → List (Call F)
  assigns places vs = assigns_from places 1 (drop 1 vs)

  -- From any values with one on wire 0: numbers for all wires, the first of them 1, are what assigns leave.
  abbrev pub NumbersAssign : Type 0
  NumbersAssign = (h : Head) (es : List (Entry F)) (t : List F) (vs : List ℕ)
      → length t ≡ h.wires → slice_index_or t 0 O.zero ≡ O.one → length vs ≡ h.wires → slice_index vs 0 ≡ 1
      → Run O (sheet h es t) (assigns h.wires vs) (granted (assigns h.wires vs)) (sheet h es (map (ones O) vs))

  -- So are those of an assignment file: a granted reading turns the value table t into u.
  abbrev pub ReadingAssigns : (p : ℕ) → Type 0
  ReadingAssigns p = (xs : List ℕ) (h : Head) (es : List (Entry F)) (t u : List F)
      → length t ≡ h.wires → slice_index_or t 0 O.zero ≡ O.one → Reads O xs p (length t) (Ok tt) u
      → (vs : List ℕ) × Encodes xs p h.wires vs × Run O (sheet h es t) (assigns h.wires vs) (granted (assigns h.wires vs)) (sheet h es u)
