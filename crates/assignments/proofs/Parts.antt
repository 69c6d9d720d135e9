-- The values of a payload that was cut out of a file.
use Rattle.std.proofs.Common.{◌≡◌, ℕ, zero, suc, ◌+◌, ◌-◌, ◌*◌, ◌<◌, ◌≤◌, ltb, List, ◌∷◌, length, take, drop, None, sym, refl, ap, ◌∙◌, add-zero, add_assoc, arith, length-drop, length-take, drop-drop}
use Rattle.std.proofs.lemmas.List.{drop-take, take_min}
use Rattle.frames.specs.Little.{le8, part}
use Rattle.frames.proofs.Faults.{passed}
use Rattle.frames.proofs.Numbers.{le8_take, le8_drop}
use Rattle.assignments.specs.Assigned.{values, valued}

module _ (xs : List ℕ) (at m : ℕ) where
  pub le8_part : (k : ℕ) → k + 8 ≤ m → le8 (part xs at m) k ≡ le8 xs (at + k)
  le8_part k h = le8_take m (drop at xs) k h ∙ le8_drop xs at k

  pub values_part : (n k : ℕ) → k + n * 8 ≤ m → values (part xs at m) n k ≡ values xs n (at + k)
  unfolding values
  values_part zero k h = refl
  values_part (suc n) k h =
      let e = values_part n (k + 8) (omega arith) in
      rw (le8_part k (omega arith)) (ap (λ l. le8 xs (at + k) ∷ l) (rw (← add_assoc) at e))

  pub valued_part : (p n k : ℕ) → k + n * 8 ≤ m → valued xs p n (at + k) ≡ None → valued (part xs at m) p n k ≡ None
  unfolding valued
  valued_part p zero k h e = refl
  valued_part p (suc n) k h e =
      let t = passed (ltb (le8 xs (at + k)) p) (valued xs p n (at + k + 8)) 10 (at + k) e in
      let s : at + k + 8 ≡ at + (k + 8) = omega arith in
      rw (le8_part k (omega arith), t.0) (valued_part p n (k + 8) (omega arith) (rw s at t.1))

-- the values of a payload are those at its place
pub values_here : (xs : List ℕ) (at n : ℕ) → values (part xs at (n * 8)) n 0 ≡ values xs n at
values_here xs at n = values_part xs at (n * 8) n 0 (omega arith) ∙ ap (values xs n) (add-zero at)

pub valued_here : (xs : List ℕ) (at p n : ℕ) → valued xs p n at ≡ None → valued (part xs at (n * 8)) p n 0 ≡ None
valued_here xs at p n e = valued_part xs at (n * 8) p n 0 (omega arith) (ap (valued xs p n) (add-zero at) ∙ e)

-- a part by its own length
pub by_length : (xs : List ℕ) (at m n : ℕ) (ys : List ℕ) → ys ≡ part xs at m → length ys ≡ n * 8 → ys ≡ part xs at (n * 8)
by_length xs at m n ys e l =
    e ∙ sym (take_min m (drop at xs)) ∙ ap (λ k. take k (drop at xs)) (sym (length-take m (drop at xs)) ∙ ap length (sym e) ∙ l)

-- the first of so many values, and the others
pub record Front (xs : List ℕ) (at n : ℕ) (ys : List ℕ) : Type 0 where
  pub some : 0 < n
  pub value : le8 ys 0 ≡ le8 xs at
  pub size : length (drop 8 ys) ≡ (n - 1) * 8
  pub others : drop 8 ys ≡ part xs (at + 8) ((n - 1) * 8)

pub front : (xs : List ℕ) (at n : ℕ) (ys : List ℕ) → ys ≡ part xs at (n * 8) → length ys ≡ n * 8 → 8 ≤ length ys → Front xs at n ys
front xs at n ys e l h =
    let k : n * 8 ≡ 8 + (n - 1) * 8 = omega arith in
    record {
      some = omega arith;
      value = ap (λ b. le8 b 0) e ∙ le8_part xs at (n * 8) 0 (omega arith) ∙ ap (le8 xs) (add-zero at);
      size = simp length-drop (omega arith);
      others = ap (drop 8) (rw k at e) ∙ drop-take 8 ((n - 1) * 8) (drop at xs) ∙ ap (take ((n - 1) * 8)) (drop-drop 8 at xs);
    }
