-- One step of each check.
use Rattle.std.proofs.Common.{◌≡◌, ℕ, zero, suc, ◌-◌, ◌<◌, ◌≤◌, true, false, ◌||◌, eqb, leb, ◌⊎◌, List, length, Some, None, refl, ◌∙◌, arith, eq-eqb, ne_eqb, le-leb, leb-true}
use Rattle.std.proofs.lemmas.Bool.Decides.{nat_tests}
use borrow.Author.Tests.{lt-leb}
use Rattle.std.proofs.lemmas.Bool.{and_right}
use Rattle.frames.specs.Little.{le4}
use Rattle.frames.specs.Checks.{past, started, framed, others, kinds, sought}
use Rattle.frames.proofs.Faults.{passed}

less : (n : ℕ) → n ≡ suc n - 1
less n = omega arith

module _ (m v : ℕ) (xs : List ℕ) where
  pub no_start : length xs < 4 → started m v xs ≡ Some (8, 0)
  unfolding started
  no_start h = rw (lt-leb 4 (length xs) h)

  pub other_start : ¬ (le4 xs 0 ≡ m) → started m v xs ≡ Some (8, 0)
  unfolding started
  other_start h = rw (ne_eqb (le4 xs 0) m h, and_right (leb 4 (length xs)) false refl)

  module _ (k : 4 ≤ length xs) (s : le4 xs 0 ≡ m) where
    pub no_version : length xs < 8 → started m v xs ≡ Some (8, 4)
    unfolding started
    no_version h = rw (le-leb 4 (length xs) k, eq-eqb (le4 xs 0) m s, lt-leb 8 (length xs) h)

    pub other_version : ¬ (le4 xs 4 ≡ v) → started m v xs ≡ Some (8, 4)
    unfolding started
    other_version h = rw (le-leb 4 (length xs) k, eq-eqb (le4 xs 0) m s, ne_eqb (le4 xs 4) v h, and_right (leb 8 (length xs)) false refl)

    module _ (l : 8 ≤ length xs) (e : le4 xs 4 ≡ v) where
      pub no_count : length xs < 12 → started m v xs ≡ Some (8, 8)
      unfolding started
      no_count h = rw (le-leb 4 (length xs) k, eq-eqb (le4 xs 0) m s, le-leb 8 (length xs) l, eq-eqb (le4 xs 4) v e, lt-leb 12 (length xs) h)

      pub few : 12 ≤ length xs → le4 xs 8 < 2 → started m v xs ≡ Some (8, 8)
      unfolding started
      few h n = rw (le-leb 4 (length xs) k, eq-eqb (le4 xs 0) m s, le-leb 8 (length xs) l, eq-eqb (le4 xs 4) v e, le-leb 12 (length xs) h, lt-leb 2 (le4 xs 8) n)

      pub begun : 12 ≤ length xs → 2 ≤ le4 xs 8 → started m v xs ≡ None
      unfolding started
      begun h n = rw (le-leb 4 (length xs) k, eq-eqb (le4 xs 0) m s, le-leb 8 (length xs) l, eq-eqb (le4 xs 4) v e, le-leb 12 (length xs) h, le-leb 2 (le4 xs 8) n)

module _ (xs : List ℕ) where
  pub framed_more : (n at : ℕ) → 0 < n → past xs at ≤ length xs → framed xs n at ≡ framed xs (n - 1) (past xs at)
  unfolding framed
  framed_more zero at h f = absurd (omega arith)
  framed_more (suc n) at h f = rw (le-leb (past xs at) (length xs) f, ← (less n))

  pub framed_short : (n at : ℕ) → 0 < n → length xs < past xs at → framed xs n at ≡ Some (8, at)
  unfolding framed
  framed_short zero at h f = absurd (omega arith)
  framed_short (suc n) at h f = rw (lt-leb (past xs at) (length xs) f)

  pub framed_done : (at : ℕ) → at ≡ length xs → framed xs 0 at ≡ None
  unfolding framed
  framed_done at e = rw (eq-eqb at (length xs) e)

  pub framed_over : (at : ℕ) → ¬ (at ≡ length xs) → framed xs 0 at ≡ Some (8, at)
  unfolding framed
  framed_over at e = rw (ne_eqb at (length xs) e)

  -- frames that were passed
  pub framed_step : (n at : ℕ) → 0 < n → framed xs n at ≡ None → (past xs at ≤ length xs) × (framed xs (n - 1) (past xs at) ≡ None)
  unfolding framed
  framed_step zero at h e = absurd (omega arith)
  framed_step (suc n) at h e =
      let p = passed (leb (past xs at) (length xs)) (framed xs n (past xs at)) 8 at e in
      (leb-true (past xs at) (length xs) p.0, rw (← (less n)) p.1)

  pub others_more : (n at : ℕ) → 0 < n → ¬ (le4 xs at ≡ 1) → ¬ (le4 xs at ≡ 2) → others xs n at ≡ others xs (n - 1) (past xs at)
  unfolding others
  others_more zero at h a b = absurd (omega arith)
  others_more (suc n) at h a b =
      let k : (eqb (le4 xs at) 0 || leb 3 (le4 xs at)) ≡ true = grind (arith, nat_tests) in
      rw (k, ← (less n))

  pub others_wrong : (n at : ℕ) → 0 < n → (le4 xs at ≡ 1) ⊎ (le4 xs at ≡ 2) → others xs n at ≡ Some (8, at)
  unfolding others
  others_wrong zero at h k = absurd (omega arith)
  others_wrong (suc n) at h k =
      let e : (eqb (le4 xs at) 0 || leb 3 (le4 xs at)) ≡ false = grind (arith, nat_tests) in
      rw e

  pub others_done : (at : ℕ) → others xs 0 at ≡ None
  unfolding others
  others_done at = refl

  pub no_header : ¬ (le4 xs 12 ≡ 1) → kinds xs ≡ Some (8, 12)
  unfolding kinds
  no_header h = rw (ne_eqb (le4 xs 12) 1 h)

  module _ (one : le4 xs 12 ≡ 1) where
    pub no_body : ¬ (le4 xs (past xs 12) ≡ 2) → kinds xs ≡ Some (8, past xs 12)
    unfolding kinds
    no_body h = rw (eq-eqb (le4 xs 12) 1 one, ne_eqb (le4 xs (past xs 12)) 2 h)

    pub both : le4 xs (past xs 12) ≡ 2 → kinds xs ≡ others xs (le4 xs 8 - 2) (past xs (past xs 12))
    unfolding kinds
    both h = rw (eq-eqb (le4 xs 12) 1 one, eq-eqb (le4 xs (past xs 12)) 2 h)

  -- the section that is looked for is here, or further on
  pub sought_here : (kind n at : ℕ) → 0 < n → le4 xs at ≡ kind → sought xs kind n at ≡ at
  unfolding sought
  sought_here kind zero at h e = absurd (omega arith)
  sought_here kind (suc n) at h e = rw (eq-eqb (le4 xs at) kind e)

  pub sought_on : (kind n at : ℕ) → 0 < n → ¬ (le4 xs at ≡ kind) → sought xs kind n at ≡ sought xs kind (n - 1) (past xs at)
  unfolding sought
  sought_on kind zero at h e = absurd (omega arith)
  sought_on kind (suc n) at h e = rw (ne_eqb (le4 xs at) kind e, ← (less n))

  pub second : (n at : ℕ) → 2 ≤ n → le4 xs at ≡ 1 → le4 xs (past xs at) ≡ 2 → sought xs 2 n at ≡ past xs at
  second n at h one two =
      sought_on 2 n at (omega arith) (λ e. omega (arith, one, e)) ∙ sought_here 2 (n - 1) (past xs at) (omega arith) two
