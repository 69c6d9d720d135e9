-- Two lists of one length, taken in turn: the length, the places, and that they can be told apart again.
use Rattle.std.proofs.Common.{◌≡◌, ℕ, suc, ◌+◌, ◌*◌, List, [], ◌∷◌, length, get_or, refl, ap₂, arith}
use Rattle.quadratic.specs.Interleave.{interleave}

pub interleave_length : (xs ys : List ℕ) (n : ℕ) → length xs ≡ n → length ys ≡ n → length (interleave xs ys) ≡ 2 * n
unfolding interleave
interleave_length [] ys n h k = omega arith
interleave_length (x ∷ xs) [] n h k = omega arith
interleave_length (x ∷ xs) (y ∷ ys) n h k =
    let l = interleave_length xs ys (length xs) refl (omega arith) in
    omega arith

pub interleave_even : (xs ys : List ℕ) → length xs ≡ length ys → (k : ℕ) → get_or (interleave xs ys) (2 * k) 0 ≡ get_or xs k 0
unfolding interleave
interleave_even [] [] h k = refl
interleave_even [] (y ∷ ys) h k = refl
interleave_even (x ∷ xs) [] h k = absurd (omega arith)
interleave_even (x ∷ xs) (y ∷ ys) h ℕ.zero = refl
interleave_even (x ∷ xs) (y ∷ ys) h (suc k) =
    let e : 2 * suc k ≡ suc (suc (2 * k)) = omega arith in
    rw e (interleave_even xs ys (omega arith) k)

pub interleave_odd : (xs ys : List ℕ) → length xs ≡ length ys → (k : ℕ) → get_or (interleave xs ys) (2 * k + 1) 0 ≡ get_or ys k 0
unfolding interleave
interleave_odd [] [] h k = refl
interleave_odd [] (y ∷ ys) h k = absurd (omega arith)
interleave_odd (x ∷ xs) [] h k = absurd (omega arith)
interleave_odd (x ∷ xs) (y ∷ ys) h ℕ.zero = refl
interleave_odd (x ∷ xs) (y ∷ ys) h (suc k) =
    let e : 2 * suc k + 1 ≡ suc (suc (2 * k + 1)) = omega arith in
    rw e (interleave_odd xs ys (omega arith) k)

pub interleave_injective : (xs ys us vs : List ℕ) → length xs ≡ length ys → length us ≡ length vs → interleave xs ys ≡ interleave us vs → (xs ≡ us) × (ys ≡ vs)
unfolding interleave
interleave_injective [] [] [] [] h k e = (refl, refl)
interleave_injective [] [] [] (v ∷ vs) h k e = absurd (omega arith)
interleave_injective [] [] (u ∷ us) [] h k e = absurd (omega arith)
interleave_injective [] [] (u ∷ us) (v ∷ vs) h k e = cc
interleave_injective [] (y ∷ ys) us vs h k e = absurd (omega arith)
interleave_injective (x ∷ xs) [] us vs h k e = absurd (omega arith)
interleave_injective (x ∷ xs) (y ∷ ys) [] vs h k e = cc
interleave_injective (x ∷ xs) (y ∷ ys) (u ∷ us) [] h k e = absurd (omega arith)
interleave_injective (x ∷ xs) (y ∷ ys) (u ∷ us) (v ∷ vs) h k e =
    let p : x ≡ u = cc in
    let q : y ≡ v = cc in
    let r : interleave xs ys ≡ interleave us vs = cc in
    let both = interleave_injective xs ys us vs (omega arith) (omega arith) r in
    (ap₂ ◌∷◌ p both.0, ap₂ ◌∷◌ q both.1)
