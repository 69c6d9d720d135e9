-- The items of a list that was cut out of a file.
use Rattle.std.proofs.Common.{◌≡◌, ℕ, ◌+◌, ◌-◌, ◌*◌, ◌<◌, ◌≤◌, List, length, take, drop, refl, ap, ◌∙◌, arith, length-drop, length-take, length-take-le, drop-drop}
use Rattle.std.proofs.lemmas.List.{drop-take, take-take}
use Rattle.frames.specs.Little.{le4, le8, part}
use Rattle.frames.proofs.Numbers.{left, le4_take, le8_take}
use Rattle.constraints.specs.Opened.{beyond}
use Rattle.constraints.specs.Reader.{list_part}

-- a part of a part
pub inner : (xs : List ℕ) (at n k m : ℕ) → k + m ≤ n → take m (drop k (part xs at n)) ≡ part xs (at + k) m
inner xs at n k m h =
    let e : n ≡ k + (n - k) = omega arith in
    rw e (ap (take m) (drop-take k (n - k) (drop at xs)) ∙ take-take m (n - k) (drop k (drop at xs)) (omega arith) ∙ ap (take m) (drop-drop k at xs))

-- the number that a part begins with, and how long the part is at most
pub first_word : (xs : List ℕ) (at n : ℕ) → 4 ≤ length (part xs at n) → (le4 (part xs at n) 0 ≡ le4 xs at) × (length (part xs at n) ≤ n)
first_word xs at n h =
    let l = length-take n (drop at xs) in
    let d = left xs (drop at xs) at refl in
    (le4_take n (drop at xs) 0 (omega arith) ∙ d.word, omega arith)

pub list_size : (xs : List ℕ) (at : ℕ) → beyond xs at ≤ length xs → length (list_part xs at) ≡ 12 * le4 xs at
list_size xs at h = length-take-le (12 * le4 xs at) (drop (at + 4) xs) (simp length-drop (omega arith))

-- the first of so many items, and the others
pub record Front (xs : List ℕ) (at m : ℕ) (ys : List ℕ) : Type 0 where
  pub some : 0 < m
  pub wire : le4 ys 0 ≡ le4 xs at
  pub coefficient : le8 ys 4 ≡ le8 xs (at + 4)
  pub size : length (drop 12 ys) ≡ 12 * (m - 1)
  pub others : drop 12 ys ≡ part xs (at + 12) (12 * (m - 1))

pub front : (xs : List ℕ) (at m : ℕ) (ys : List ℕ) → ys ≡ part xs at (12 * m) → length ys ≡ 12 * m → 12 ≤ length ys → Front xs at m ys
front xs at m ys e l h =
    let d = left xs (drop at xs) at refl in
    let k : 12 * m ≡ 12 + 12 * (m - 1) = omega arith in
    record {
      some = omega arith;
      wire = ap (λ z. le4 z 0) e ∙ le4_take (12 * m) (drop at xs) 0 (omega arith) ∙ d.word;
      coefficient = ap (λ z. le8 z 4) e ∙ le8_take (12 * m) (drop at xs) 4 (omega arith) ∙ d.long;
      size = simp length-drop (omega arith);
      others = ap (drop 12) (rw k at e) ∙ drop-take 12 (12 * (m - 1)) (drop at xs) ∙ ap (take (12 * (m - 1))) (drop-drop 12 at xs);
    }
