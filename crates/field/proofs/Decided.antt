-- Decisions as tests, and what the answer of `same` shows.
use Rattle.std.proofs.Common.{◌≡◌, Bool, true, false, sym, refl, ◌∙◌}
use Rattle.field.specs.Operations.{Operations, decided}

pub decided_yes : {P : Type 0} (d : Dec P) → P → decided d ≡ true
decided_yes (yes _) p = refl
decided_yes (no f) p = absurd (f p)

pub decided_no : {P : Type 0} (d : Dec P) → ¬ P → decided d ≡ false
decided_no (yes p) f = absurd (f p)
decided_no (no _) f = refl

pub yes_decided : {P : Type 0} (d : Dec P) → decided d ≡ true → P
yes_decided (yes p) e = p
yes_decided (no f) e = cc

pub no_decided : {P : Type 0} (d : Dec P) → decided d ≡ false → ¬ P
no_decided (yes p) e = λ _. cc
no_decided (no f) e = f

module _ {F : Type 0} (O : Operations F) (x y : F) (s : Bool) (told : s ≡ decided (O.same x y)) where
  pub same_true : s ≡ true → x ≡ y
  same_true e = yes_decided (O.same x y) (sym told ∙ e)

  pub same_false : s ≡ false → ¬ (x ≡ y)
  same_false e = no_decided (O.same x y) (sym told ∙ e)
