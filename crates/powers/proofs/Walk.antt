-- Tests along a list, which the checker computes entry by entry, and the rule that each shows at every place.
use Rattle.std.proofs.Common.{◌≡◌, ℕ, zero, suc, ◌+◌, ◌*◌, ◌%◌, ◌^◌, ◌<◌, Bool, true, not, ◌&&◌, eqb, List, [], ◌∷◌, length, get_or, sym, ap, ◌∙◌, subst, le_of_suc-le-suc, not-suc-le-zero, add-zero, add-suc, mul_assoc, suc-add, mul-one}
use Rattle.std.proofs.Math.Nat.{pow-zero, pow-succ'}
use Rattle.std.proofs.lemmas.Bool.{and_parts, eqb-true, eq-eqb, not-true}
use Rattle.std.proofs.lemmas.Nat.{mul-mod_first}

-- the test passes at each entry and its place, counted from i
abbrev pub each : (ℕ → ℕ → Bool) → ℕ → List ℕ → Bool
each f i [] = true
each f i (x ∷ xs) = f i x && each f (suc i) xs

pub each_at : (f : ℕ → ℕ → Bool) (i : ℕ) (xs : List ℕ) → each f i xs ≡ true → (k : ℕ) → k < length xs → f (i + k) (get_or xs k 0) ≡ true
each_at f i [] t k h = absurd (not-suc-le-zero h)
each_at f i (x ∷ xs) t zero h = subst (λ (m : ℕ). f m x ≡ true) (sym (add-zero i)) (and_parts (f i x) (each f (suc i) xs) t).0
each_at f i (x ∷ xs) t (suc k) h =
    subst (λ (m : ℕ). f m (get_or xs k 0) ≡ true) (suc-add i k ∙ sym (add-suc i k))
    (each_at f (suc i) xs (and_parts (f i x) (each f (suc i) xs) t).1 k (le_of_suc-le-suc h))

-- the first entry is x modulo m, and each is g times the one before
abbrev pub grows : (g m : ℕ) → ℕ → List ℕ → Bool
grows g m x [] = true
grows g m x (y ∷ ys) = eqb y (x % m) && grows g m (y * g) ys

pub grows_at : (g m x : ℕ) (ys : List ℕ) → grows g m x ys ≡ true → (k : ℕ) → k < length ys → get_or ys k 0 ≡ (x * g ^ k) % m
grows_at g m x [] t k h = absurd (not-suc-le-zero h)
grows_at g m x (y ∷ ys) t zero h =
    eqb-true y (x % m) (and_parts (eqb y (x % m)) (grows g m (y * g) ys) t).0
    ∙ ap (λ (w : ℕ). w % m) (sym (ap (λ (w : ℕ). x * w) (pow-zero g) ∙ mul-one x))
grows_at g m x (y ∷ ys) t (suc k) h =
    let passed = and_parts (eqb y (x % m)) (grows g m (y * g) ys) t in
    grows_at g m (y * g) ys passed.1 k (le_of_suc-le-suc h)
    ∙ ap (λ (w : ℕ). w % m) (mul_assoc y g (g ^ k) ∙ ap (λ (w : ℕ). y * w) (sym (pow-succ' g k)))
    ∙ ap (λ (w : ℕ). (w * g ^ suc k) % m) (eqb-true y (x % m) passed.0)
    ∙ mul-mod_first x (g ^ suc k) m

-- none of the n powers of g after x is 1 modulo m
abbrev pub misses_one : (g m : ℕ) → ℕ → ℕ → Bool
misses_one g m zero x = true
misses_one g m (suc n) x = not (eqb ((x * g) % m) 1) && misses_one g m n ((x * g) % m)

pub misses_at : (g m n x : ℕ) → misses_one g m n x ≡ true → (k : ℕ) → k < n → ¬ ((x * g ^ suc k) % m ≡ 1)
misses_at g m zero x t k h = absurd (not-suc-le-zero h)
misses_at g m (suc n) x t zero h = λ e.
    let one : (x * g) % m ≡ 1 = ap (λ (w : ℕ). (x * w) % m) (sym (pow-succ' g 0 ∙ ap (λ (w : ℕ). g * w) (pow-zero g) ∙ mul-one g)) ∙ e in
    let passed : eqb ((x * g) % m) 1 ≡ true = eq-eqb _ _ one in
    let missed = not-true _ (and_parts (not (eqb ((x * g) % m) 1)) (misses_one g m n ((x * g) % m)) t).0 in
    cc
misses_at g m (suc n) x t (suc k) h = λ e.
    misses_at g m n ((x * g) % m) (and_parts (not (eqb ((x * g) % m) 1)) (misses_one g m n ((x * g) % m)) t).1 k (le_of_suc-le-suc h)
    (mul-mod_first (x * g) (g ^ suc k) m ∙ ap (λ (w : ℕ). w % m) (mul_assoc x g (g ^ suc k) ∙ ap (λ (w : ℕ). x * w) (sym (pow-succ' g (suc k)))) ∙ e)
