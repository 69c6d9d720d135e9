-- One step of each check.
use Rattle.std.proofs.Common.{◌≡◌, ℕ, zero, suc, ◌+◌, ◌-◌, ◌<◌, ◌≤◌, List, length, Some, None, refl, arith, le-ltb, lt-ltb, eq-eqb, ne_eqb, le-leb, inl, inr}
use Rattle.std.proofs.lemmas.Bool.{cases_eq}
use borrow.Author.Tests.{lt-leb}
use Rattle.frames.specs.Little.{le4, le8}
use Rattle.frames.specs.Faults.{then}
use Rattle.constraints.specs.Opened.{headed, items, beyond, lists}

less : (n : ℕ) → n ≡ suc n - 1
less n = omega arith

module _ (xs : List ℕ) (w p : ℕ) where
  pub items_more : (n at : ℕ) → 0 < n → le4 xs at < w → le8 xs (at + 4) < p → items xs w p n at ≡ items xs w p (n - 1) (at + 12)
  unfolding items
  items_more zero at h a b = absurd (omega arith)
  items_more (suc n) at h a b = rw (lt-ltb (le4 xs at) w a, lt-ltb (le8 xs (at + 4)) p b, ← (less n))

  pub wire_out : (n at : ℕ) → 0 < n → w ≤ le4 xs at → items xs w p n at ≡ Some (10, at)
  unfolding items
  wire_out zero at h a = absurd (omega arith)
  wire_out (suc n) at h a = rw (le-ltb (le4 xs at) w a)

  pub number_out : (n at : ℕ) → 0 < n → le4 xs at < w → p ≤ le8 xs (at + 4) → items xs w p n at ≡ Some (10, at + 4)
  unfolding items
  number_out zero at h a b = absurd (omega arith)
  number_out (suc n) at h a b = rw (lt-ltb (le4 xs at) w a, le-ltb (le8 xs (at + 4)) p b)

  pub items_done : (at : ℕ) → items xs w p 0 at ≡ None
  unfolding items
  items_done at = refl

  module _ (stop : ℕ) where
    pub lists_go : (n at : ℕ) → 0 < n → beyond xs at ≤ stop → lists xs w p stop n at ≡ then (items xs w p (le4 xs at) (at + 4)) (lists xs w p stop (n - 1) (beyond xs at))
    unfolding lists
    lists_go zero at h f = absurd (omega arith)
    lists_go (suc n) at h f = rw (le-leb (beyond xs at) stop f, ← (less n))

    pub lists_short : (n at : ℕ) → 0 < n → stop < beyond xs at → lists xs w p stop n at ≡ Some (8, at)
    unfolding lists
    lists_short zero at h f = absurd (omega arith)
    lists_short (suc n) at h f = rw (lt-leb (beyond xs at) stop f)

    pub lists_done : (at : ℕ) → at ≡ stop → lists xs w p stop 0 at ≡ None
    unfolding lists
    lists_done at e = rw (eq-eqb at stop e)

    pub lists_over : (at : ℕ) → ¬ (at ≡ stop) → lists xs w p stop 0 at ≡ Some (8, at)
    unfolding lists
    lists_over at e = rw (ne_eqb at stop e)

module _ (hs : List ℕ) (at p : ℕ) where
  pub no_header : ¬ ((length hs ≡ 40) × (le4 hs 0 ≡ 8)) → headed hs at p ≡ Some (8, at)
  unfolding headed
  no_header n = elim (cases_eq (length hs) 40) [
    | inl l ↦ rw (eq-eqb (length hs) 40 l, ne_eqb (le4 hs 0) 8 (λ e. n (l, e)))
    | inr l ↦ rw (ne_eqb (length hs) 40 l)
  ]

  module _ (l : length hs ≡ 40) where
    module _ (f : le4 hs 0 ≡ 8) where
      pub other_prime : ¬ (le8 hs 4 ≡ p) → headed hs at p ≡ Some (9, at + 4)
      unfolding headed
      other_prime h = rw (eq-eqb (length hs) 40 l, eq-eqb (le4 hs 0) 8 f, ne_eqb (le8 hs 4) p h)

      module _ (e : le8 hs 4 ≡ p) where
        pub too_many : le4 hs 12 < 1 + le4 hs 16 + le4 hs 20 + le4 hs 24 → headed hs at p ≡ Some (8, at + 12)
        unfolding headed
        too_many h = rw (eq-eqb (length hs) 40 l, eq-eqb (le4 hs 0) 8 f, eq-eqb (le8 hs 4) p e, lt-leb (1 + le4 hs 16 + le4 hs 20 + le4 hs 24) (le4 hs 12) h)

        pub head_right : 1 + le4 hs 16 + le4 hs 20 + le4 hs 24 ≤ le4 hs 12 → headed hs at p ≡ None
        unfolding headed
        head_right h = rw (eq-eqb (length hs) 40 l, eq-eqb (le4 hs 0) 8 f, eq-eqb (le8 hs 4) p e, le-leb (1 + le4 hs 16 + le4 hs 20 + le4 hs 24) (le4 hs 12) h)
