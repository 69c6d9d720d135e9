-- A table that takes the values one after another.
use Rattle.std.proofs.Common.{◌≡◌, ℕ, ◌+◌, ◌*◌, ◌<◌, List, [], ◌∷◌, ◌++◌, map, length, take, set, sym, refl, ap, ◌∙◌, arith, take_all}
use mathlib.Core.List.{map-append}
use Rattle.std.proofs.lemmas.List.{take_more_set}
use Rattle.frames.specs.Little.{le8}
use Rattle.assignments.specs.Assigned.{values}
use Rattle.assignments.proofs.Walk.{values_more}

module _ {F : Type 0} (f : ℕ → F) (xs : List ℕ) (at : ℕ) where
  pub none_yet : [] ≡ map f (values xs 0 at)
  unfolding values
  none_yet = refl

  pub one_more : (t : List F) (i : ℕ) (x : F) → i < length t → take i t ≡ map f (values xs i at) → x ≡ f (le8 xs (at + 8 * i))
      → take (i + 1) (set t i x) ≡ map f (values xs (i + 1) at)
  one_more t i x h e ex =
      take_more_set t i x h ∙ ap (λ l. l ++ (x ∷ [])) e ∙ ap (λ y. map f (values xs i at) ++ (y ∷ [])) ex
      ∙ sym (map-append f (values xs i at) (le8 xs (at + 8 * i) ∷ [])) ∙ ap (map f) (sym (values_more xs i at))

  pub all_there : (t : List F) (n : ℕ) → length t ≡ n → take n t ≡ map f (values xs n at) → t ≡ map f (values xs n at)
  all_there t n e h = sym (take_all n t (omega (arith, e))) ∙ h
