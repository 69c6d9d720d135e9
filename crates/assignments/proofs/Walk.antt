-- One step of each check.
use Rattle.std.proofs.Common.{◌≡◌, ℕ, zero, suc, ◌+◌, ◌-◌, ◌*◌, ◌<◌, ◌≤◌, false, eqb, ltb, leb, List, [], ◌∷◌, ◌++◌, length, Some, None, refl, ap, inl, inr, add-zero, arith, ltb-true, le-ltb, lt-ltb, eq-eqb, ne_eqb, le-leb}
use borrow.Author.Tests.{lt-leb}
use Rattle.std.proofs.lemmas.Bool.{and_right, cases_eq}
use Rattle.frames.specs.Little.{le4, le8}
use Rattle.refusal.specs.Due.{Due}
use Rattle.frames.specs.Faults.{check}
use Rattle.frames.proofs.Faults.{passed}
use Rattle.assignments.specs.Assigned.{counted, values, valued, content, assigned}

less : (n : ℕ) → n ≡ suc n - 1
less n = omega arith

module _ (hs : List ℕ) (at size to p n : ℕ) where
  pub no_header : ¬ ((length hs ≡ 16) × (le4 hs 0 ≡ 8)) → counted hs at size to p n ≡ Some (8, at)
  unfolding counted
  no_header h = elim (cases_eq (length hs) 16) [
    | inl l ↦ rw (eq-eqb (length hs) 16 l, ne_eqb (le4 hs 0) 8 (λ e. h (l, e)))
    | inr l ↦ rw (ne_eqb (length hs) 16 l)
  ]

  module _ (l : length hs ≡ 16) where
    module _ (f : le4 hs 0 ≡ 8) where
      pub other_size : ¬ (size ≡ le4 hs 12 * 8) → counted hs at size to p n ≡ Some (8, to)
      unfolding counted
      other_size h = rw (eq-eqb (length hs) 16 l, eq-eqb (le4 hs 0) 8 f, ne_eqb size (le4 hs 12 * 8) h)

      module _ (s : size ≡ le4 hs 12 * 8) where
        pub other_prime : ¬ (le8 hs 4 ≡ p) → counted hs at size to p n ≡ Some (9, at + 4)
        unfolding counted
        other_prime h = rw (eq-eqb (length hs) 16 l, eq-eqb (le4 hs 0) 8 f, eq-eqb size (le4 hs 12 * 8) s, ne_eqb (le8 hs 4) p h)

        module _ (e : le8 hs 4 ≡ p) where
          pub other_count : ¬ (le4 hs 12 ≡ n) → counted hs at size to p n ≡ Some (11, at + 12)
          unfolding counted
          other_count h = rw (eq-eqb (length hs) 16 l, eq-eqb (le4 hs 0) 8 f, eq-eqb size (le4 hs 12 * 8) s, eq-eqb (le8 hs 4) p e, ne_eqb (le4 hs 12) n h)

          pub head_right : le4 hs 12 ≡ n → counted hs at size to p n ≡ None
          unfolding counted
          head_right h = rw (eq-eqb (length hs) 16 l, eq-eqb (le4 hs 0) 8 f, eq-eqb size (le4 hs 12 * 8) s, eq-eqb (le8 hs 4) p e, eq-eqb (le4 hs 12) n h)

module _ (xs : List ℕ) (p : ℕ) where
  pub valued_more : (n at : ℕ) → 0 < n → le8 xs at < p → valued xs p n at ≡ valued xs p (n - 1) (at + 8)
  unfolding valued
  valued_more zero at h a = absurd (omega arith)
  valued_more (suc n) at h a = rw (lt-ltb (le8 xs at) p a, ← (less n))

  pub value_out : (n at : ℕ) → 0 < n → p ≤ le8 xs at → valued xs p n at ≡ Some (10, at)
  unfolding valued
  value_out zero at h a = absurd (omega arith)
  value_out (suc n) at h a = rw (le-ltb (le8 xs at) p a)

  pub valued_done : (at : ℕ) → valued xs p 0 at ≡ None
  unfolding valued
  valued_done at = refl

  -- a value among those that were passed
  pub value_below : (n at i : ℕ) → valued xs p n at ≡ None → i < n → le8 xs (at + 8 * i) < p
  unfolding valued
  value_below zero at i e h = absurd (omega (arith, h))
  value_below (suc n) at zero e h = let t = passed (ltb (le8 xs at) p) (valued xs p n (at + 8)) 10 at e in rw add-zero (ltb-true (le8 xs at) p t.0)
  value_below (suc n) at (suc i) e h =
      let t = passed (ltb (le8 xs at) p) (valued xs p n (at + 8)) 10 at e in
      let k : at + 8 * suc i ≡ at + 8 + 8 * i = omega arith in
      rw k (value_below n (at + 8) i t.1 (omega arith))

-- one more value
pub values_more : (xs : List ℕ) (n at : ℕ) → values xs (n + 1) at ≡ values xs n at ++ (le8 xs (at + 8 * n) ∷ [])
unfolding values
values_more xs zero at = rw add-zero refl
values_more xs (suc n) at =
    let k : at + 8 * suc n ≡ at + 8 + 8 * n = omega arith in
    let j : suc n + 1 ≡ suc (n + 1) = omega arith in
    rw (j, k) (ap (λ l. le8 xs at ∷ l) (values_more xs n (at + 8)))

pub length_values : (xs : List ℕ) (n at : ℕ) → length (values xs n at) ≡ n
unfolding values
length_values xs zero at = refl
length_values xs (suc n) at = ap suc (length_values xs n (at + 8))

module _ (xs : List ℕ) (p n : ℕ) where
  pub too_few : n < 1 → assigned xs p n ≡ Some (5, 0)
  unfolding assigned
  too_few h = rw (lt-leb 1 n h)

  pub too_long : 3072 < n → assigned xs p n ≡ Some (5, 0)
  unfolding assigned
  too_long h = rw (lt-leb n 3072 h, and_right (leb 1 n) false refl)

  pub room : 1 ≤ n → n ≤ 3072 → assigned xs p n ≡ content xs p n
  unfolding assigned
  room a b = rw (le-leb 1 n a, le-leb n 3072 b)

-- the first value
module _ (xs : List ℕ) (at : ℕ) (below : Due) where
  pub first_out : ¬ (le8 xs at ≡ 1) → check (eqb (le8 xs at) 1) 10 at below ≡ Some (10, at)
  first_out h = rw (ne_eqb (le8 xs at) 1 h)

  pub first_one : le8 xs at ≡ 1 → check (eqb (le8 xs at) 1) 10 at below ≡ below
  first_one h = rw (eq-eqb (le8 xs at) 1 h)
