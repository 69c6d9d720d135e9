-- Two entries of one position count as one with the sum of their coefficients.
use Rattle.std.proofs.Common.{◌≡◌, ℕ, List, [], ◌∷◌, ◌++◌, sym, refl, ap, ◌∙◌}
use native.Mathlib.Decide.{ℕ_discrete}
use Rattle.field.specs.Operations.{Operations}
use Rattle.field.specs.Laws.{Laws}
use Rattle.modular.specs.Field97.{only97, element97, ops97}
use Rattle.modular.proofs.Laws97.{laws97}
use Rattle.sheet.specs.Outcomes.{entry}
use Rattle.sheet.specs.declared.entry.Entry.{Entry}
use Rattle.square.specs.Rows.{when◌then◌else◌, only, position}
use Rattle.worked.specs.Worked.{EntriesAdd}

module _ {F : Type 0} {O : Operations F} (L : Laws O) where
  open O use {zero as 𝟘, add as ◌⊕◌}

  infixl 60 ◌⊕◌
  chosen_add : {P : Type 0} (d : Dec P) (x y : F) → (when d then x else 𝟘) ⊕ (when d then y else 𝟘) ≡ (when d then x ⊕ y else 𝟘)
  chosen_add (yes _) x y = refl
  chosen_add (no _) x y = L.ring.add_zero 𝟘

  only_add : (i j : ℕ) (x y : F) → only O i j x ⊕ only O i j y ≡ only O i j (x ⊕ y)
  unfolding only
  only_add i j x y = chosen_add (ℕ_discrete i j) x y

  module _ (a i j matrix row wire : ℕ) where
    abbrev counted : F → F
    counted x = only O a matrix (only O i row (only O j wire x))

    counted_add : (x y : F) → counted x ⊕ counted y ≡ counted (x ⊕ y)
    counted_add x y =
        only_add a matrix _ _
        ∙ ap (only O a matrix) (only_add i row _ _ ∙ ap (only O i row) (only_add j wire x y))

    pub position_add : (es : List (Entry F)) (x y : F)
        → position O (es ++ entry a i j x ∷ entry a i j y ∷ []) matrix row wire ≡ position O (es ++ entry a i j (x ⊕ y) ∷ []) matrix row wire
    unfolding position
    position_add [] x y = sym (L.ring.add_assoc (counted x) (counted y) 𝟘) ∙ ap (λ t. t ⊕ 𝟘) (counted_add x y)
    position_add (e ∷ es) x y =
        ap (λ t. only O e.matrix matrix (only O e.row row (only O e.wire wire e.coefficient)) ⊕ t) (position_add es x y)

pub entries_add : EntriesAdd
entries_add es a i j matrix row wire =
    position_add laws97 a i j matrix row wire es (element97 50) (element97 48)
    ∙ ap (λ x. position ops97 (es ++ entry a i j x ∷ []) matrix row wire) (only97 _ _ refl)
