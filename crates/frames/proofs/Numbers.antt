-- Numbers read from parts of bytes.
use Rattle.std.proofs.Common.{◌≡◌, ℕ, ◌+◌, ◌-◌, ◌≤◌, List, length, take, drop, ap, ◌∙◌, add-zero, add_assoc, arith, length-drop, get_or-drop, take_all, drop-drop}
use Rattle.std.proofs.lemmas.List.{get_or-take}
use Rattle.frames.specs.Little.{le4, le8}

pub le4_drop : (xs : List ℕ) (b at : ℕ) → le4 (drop b xs) at ≡ le4 xs (b + at)
unfolding le4
le4_drop xs b at = simp (get_or-drop, add_assoc)

pub le8_drop : (xs : List ℕ) (b at : ℕ) → le8 (drop b xs) at ≡ le8 xs (b + at)
unfolding le8
le8_drop xs b at = simp (le4_drop, add_assoc)

pub le4_take : (n : ℕ) (xs : List ℕ) (at : ℕ) → at + 4 ≤ n → le4 (take n xs) at ≡ le4 xs at
unfolding le4
le4_take n xs at h =
    let a = get_or-take n xs at 0 (omega arith) in
    let b = get_or-take n xs (at + 1) 0 (omega arith) in
    let c = get_or-take n xs (at + 2) 0 (omega arith) in
    let d = get_or-take n xs (at + 3) 0 (omega arith) in
    omega (arith, a, b, c, d)

pub le8_take : (n : ℕ) (xs : List ℕ) (at : ℕ) → at + 8 ≤ n → le8 (take n xs) at ≡ le8 xs at
unfolding le8
le8_take n xs at h = omega (arith, le4_take n xs at (omega arith), le4_take n xs (at + 4) (omega arith))

-- what `rest @ ..` and `&s[n..]` name is all that is left
pub rest : (n : ℕ) (xs : List ℕ) → take (length xs - n) (drop n xs) ≡ drop n xs
rest n xs = take_all (length xs - n) (drop n xs) (simp length-drop (omega arith))

-- what is left after a number was taken off
pub record Left (xs : List ℕ) (b : ℕ) (ys : List ℕ) : Type 0 where
  pub word : le4 ys 0 ≡ le4 xs b
  pub long : le8 ys 4 ≡ le8 xs (b + 4)
  pub size : length ys ≡ length xs - b
  pub next : (n : ℕ) (zs : List ℕ) → zs ≡ drop n ys → zs ≡ drop (b + n) xs

pub left : (xs ys : List ℕ) (b : ℕ) → ys ≡ drop b xs → Left xs b ys
left xs ys b e =
    record {
      word = ap (λ l. le4 l 0) e ∙ le4_drop xs b 0 ∙ ap (le4 xs) (add-zero b);
      long = ap (λ l. le8 l 4) e ∙ le8_drop xs b 4;
      size = ap length e ∙ length-drop b xs;
      next = λ n zs f. f ∙ ap (λ l. drop n l) e ∙ drop-drop n b xs;
    }
