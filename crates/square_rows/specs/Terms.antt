-- The terms of a linear combination, in the order of the wires.
use Rattle.std.specs.Prelude.{ℕ, zero, suc, ◌+◌, ◌-◌, List, [], ◌∷◌}
use Rattle.field.specs.Operations.{Operations}
use Rattle.sheet.specs.Shape.{Shape, columns}
use Rattle.sheet.specs.Outcomes.{shape_of}
use Rattle.sheet.specs.declared.entry.Entry.{Entry}
use Rattle.square.specs.Rows.{when◌then◌else◌, position}
use Rattle.square_rows.specs.declared.term.Term.{Term}
use Rattle.square_rows.specs.declared.combination.Combination.{Combination}
use Rattle.square_rows.specs.declared.combination.terms.Terms.{Terms}
use Rattle.square_rows.specs.Combined.{combined}

module _ {F : Type 0} (O : Operations F) where
  -- each of so many wires, from a wire on, whose coefficient is not zero, with that coefficient
  unfoldable pub terms : (count from : ℕ) → (ℕ → F) → List (Term F)
  terms zero from f = []
  terms (suc count) from f =
      when O.same (f from) O.zero
      then terms count (from + 1) f
      else record { wire = from; coefficient = f from } ∷ terms count (from + 1) f

  -- the terms of a combination, by the sheet's entries
  abbrev pub terms_of : Shape → List (Entry F) → Combination F → List (Term F)
  terms_of S es k = terms (columns S) 0 (combined O S (position O es) k)

  -- the coefficient of each wire
  abbrev pub coefficients : Terms F → ℕ → F
  coefficients t = combined O (shape_of t.head.now) (position O t.used.now) t.combination.now

  -- the terms that are left
  abbrev pub terms_left : Terms F → List (Term F)
  terms_left t = terms (columns (shape_of t.head.now) - t.from) t.from (coefficients t)
