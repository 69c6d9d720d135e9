-- Elements of the field of 97 by their numbers, which the checker computes.
use Rattle.std.proofs.Common.{◌≡◌, ℕ, suc, ◌<◌, List, [], ◌∷◌, map, length, get_or, drop, sym, refl, ap, ◌∙◌, ap₂, arith}
use Rattle.modular.specs.Field97.{F97, only97, element97}
use Rattle.transform.specs.Polynomial.{table}
use Rattle.transform.proofs.Tables.{get_or_table}

-- the numbers of elements
abbrev pub values : List F97 → List ℕ
values = map (λ (x : F97). x.value)

pub by_values : (xs ys : List F97) → values xs ≡ values ys → xs ≡ ys
by_values [] [] e = refl
by_values [] (y ∷ ys) e = let sizes : 0 ≡ suc (length (values ys)) = ap length e in absurd (omega arith)
by_values (x ∷ xs) [] e = let sizes : suc (length (values xs)) ≡ 0 = ap length e in absurd (omega arith)
by_values (x ∷ xs) (y ∷ ys) e = ap₂ ◌∷◌ (only97 x y (ap (λ (t : List ℕ). get_or t 0 0) e)) (by_values xs ys (ap (λ (t : List ℕ). drop 1 t) e))

-- functions whose tables have the same numbers agree below the tables' end
pub each : (n : ℕ) (f g : ℕ → F97) → values (table n f) ≡ values (table n g) → (r : ℕ) → r < n → f r ≡ g r
each n f g e r h =
    sym (get_or_table n f (element97 0) r h)
    ∙ ap (λ (t : List F97). get_or t r (element97 0)) (by_values (table n f) (table n g) e)
    ∙ get_or_table n g (element97 0) r h
