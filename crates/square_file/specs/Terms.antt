-- The items that stand in a file for the terms of a linear combination.
use Rattle.std.specs.Prelude.{ℕ, Bool, List, map}
use Rattle.std.specs.List.{list_all}
use Rattle.field.specs.Operations.{Operations}
use Rattle.square_rows.specs.declared.term.Term.{Term}
use Rattle.writing.specs.Plain.{numbered, is_plain}
use Rattle.constraints.specs.declared.item.Item.{Item}

module _ {F : Type 0} (O : Operations F) where
  -- every coefficient has a number below the prime
  abbrev pub all_plain : ℕ → List (Term F) → Bool
  all_plain p ts = list_all (λ t. is_plain O p t.coefficient) ts

  abbrev pub item : ℕ → Term F → Item
  item p t = record { wire = t.wire; coefficient = numbered O p t.coefficient }

  abbrev pub items : ℕ → List (Term F) → List Item
  items p ts = map (item p) ts
