-- Tables: a list by the function that gives its entries.
use Rattle.std.proofs.Common.{◌≡◌, ℕ, zero, suc, ◌<◌, List, length, get_or, sym, refl, ap, ◌∙◌, le_of_suc-le-suc, not-suc-le-zero, arith, ext_get_or}
use Rattle.transform.specs.Polynomial.{table}

pub length_table : {X : Type 0} (n : ℕ) (f : ℕ → X) → length (table n f) ≡ n
unfolding table
length_table zero f = refl
length_table (suc n) f = ap suc (length_table n (λ i. f (suc i)))

pub get_or_table : {X : Type 0} (n : ℕ) (f : ℕ → X) (d : X) (i : ℕ) → i < n → get_or (table n f) i d ≡ f i
unfolding table
get_or_table zero f d i h = absurd (not-suc-le-zero h)
get_or_table (suc n) f d zero h = refl
get_or_table (suc n) f d (suc i) h = get_or_table n (λ i. f (suc i)) d i (le_of_suc-le-suc h)

-- a list is the table of what is read in it
pub is_table : {X : Type 0} (d : X) (xs : List X) (n : ℕ) (f : ℕ → X) → length xs ≡ n → ((i : ℕ) → i < n → get_or xs i d ≡ f i) → xs ≡ table n f
is_table d xs n f size h =
    ext_get_or d xs (table n f) (size ∙ sym (length_table n f)) (λ i k. let below : i < n = omega arith in h i below ∙ sym (get_or_table n f d i below))

pub table_ext : {X : Type 0} (d : X) (n : ℕ) (f g : ℕ → X) → ((i : ℕ) → i < n → f i ≡ g i) → table n f ≡ table n g
table_ext d n f g h = is_table d (table n f) n g (length_table n f) (λ i k. get_or_table n f d i k ∙ h i k)
