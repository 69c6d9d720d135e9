-- Numbers written as bytes and read again.
use Rattle.std.proofs.Common.{◌≡◌, ℕ, zero, suc, ◌+◌, ◌*◌, ◌/◌, ◌%◌, ◌^◌, ◌<◌, ◌≤◌, List, [], ◌∷◌, ◌++◌, length, get_or, take, drop, sym, refl, ap, ◌∙◌, add_assoc, arith, length-append, length-drop, length-take-le, get_or-drop, drop-drop, take_at, drop_at}
use native.Mathlib.Nat.{pow-succ'}
use Rattle.std.proofs.lemmas.List.{drop_more, take-append-drop}
use Rattle.frames.specs.Little.{little, le4, le8}

-- the number that bytes spell
abbrev pub value : List ℕ → ℕ
value [] = 0
value (b ∷ bs) = b + 256 * value bs

pub length_little : (n v : ℕ) → length (little n v) ≡ n
unfolding little
length_little zero v = refl
length_little (suc n) v = ap suc (length_little n (v / 256))

pub value_little : (n v : ℕ) → v < 256 ^ n → value (little n v) ≡ v
unfolding little
value_little zero v h = omega (arith, h)
value_little (suc n) v h =
    let k : v < 256 * 256 ^ n = rw pow-succ' at h in
    omega (arith, value_little n (v / 256) (omega arith))

pub value_step : (n k : ℕ) (xs : List ℕ) → k < length xs → value (take (suc n) (drop k xs)) ≡ get_or xs k 0 + 256 * value (take n (drop (k + 1) xs))
value_step n k xs h = rw (drop_more xs k 0)

pub value_four : (n at : ℕ) (xs : List ℕ) → at + 4 ≤ length xs → value (take (suc (suc (suc (suc n)))) (drop at xs)) ≡ le4 xs at + 4294967296 * value (take n (drop (at + 4) xs))
unfolding le4
value_four n at xs h =
    let a = value_step (suc (suc (suc n))) at xs (omega arith) in
    let b = simp add_assoc at (value_step (suc (suc n)) (at + 1) xs (omega arith)) in
    let c = simp add_assoc at (value_step (suc n) (at + 2) xs (omega arith)) in
    let d = simp add_assoc at (value_step n (at + 3) xs (omega arith)) in
    omega (arith, a, b, c, d)

pub le4_value : (xs : List ℕ) (at : ℕ) → at + 4 ≤ length xs → le4 xs at ≡ value (take 4 (drop at xs))
le4_value xs at h = omega (arith, value_four 0 at xs h)

pub le8_value : (xs : List ℕ) (at : ℕ) → at + 8 ≤ length xs → le8 xs at ≡ value (take 8 (drop at xs))
unfolding le8
le8_value xs at h =
    omega (arith, value_four 4 at xs (omega arith), le4_value xs (at + 4) (omega arith))

-- what is left of a file from a place on
pub record Rest (xs : List ℕ) (at : ℕ) (zs : List ℕ) : Type 0 where
  pub here : drop at xs ≡ zs
  pub size : at + length zs ≡ length xs

module _ (xs : List ℕ) where
  pub skip : (at n : ℕ) (ys zs : List ℕ) → length ys ≡ n → Rest xs at (ys ++ zs) → Rest xs (at + n) zs
  skip at n ys zs e r =
      record {
        here = sym (drop-drop n at xs) ∙ ap (λ l. drop n l) r.here ∙ drop_at ys zs n e;
        size = omega (arith, r.size, length-append ys zs);
      }

  pub four : (at v : ℕ) (zs : List ℕ) → v < 2 ^ 32 → Rest xs at (little 4 v ++ zs) → le4 xs at ≡ v
  four at v zs h r =
      let l = length-append (little 4 v) zs in
      le4_value xs at (omega (arith, r.size, l, length_little 4 v))
      ∙ ap (λ s. value (take 4 s)) r.here ∙ ap value (take_at (little 4 v) zs 4 (length_little 4 v)) ∙ value_little 4 v h

  pub eight : (at v : ℕ) (zs : List ℕ) → v < 2 ^ 64 → Rest xs at (little 8 v ++ zs) → le8 xs at ≡ v
  eight at v zs h r =
      let l = length-append (little 8 v) zs in
      le8_value xs at (omega (arith, r.size, l, length_little 8 v))
      ∙ ap (λ s. value (take 8 s)) r.here ∙ ap value (take_at (little 8 v) zs 8 (length_little 8 v)) ∙ value_little 8 v h

pub whole : (xs : List ℕ) → Rest xs 0 xs
whole xs = record { here = refl; size = omega arith }

pub little_value : (bs : List ℕ) → ((i : ℕ) → get_or bs i 0 < 256) → little (length bs) (value bs) ≡ bs
unfolding little
little_value [] small = refl
little_value (b ∷ bs) small =
    let h : b < 256 = small 0 in
    let m : (b + 256 * value bs) % 256 ≡ b = omega arith in
    let d : (b + 256 * value bs) / 256 ≡ value bs = omega arith in
    rw (m, d) (ap (λ r. b ∷ r) (little_value bs (λ i. small (suc i))))

-- so many elements from a place on, and what follows them
pub parted : (n at : ℕ) (xs : List ℕ) → drop at xs ≡ take n (drop at xs) ++ drop (at + n) xs
parted n at xs = sym (take-append-drop n (drop at xs)) ∙ ap (λ l. take n (drop at xs) ++ l) (drop-drop n at xs)

pub take_small : (n : ℕ) (xs : List ℕ) → ((i : ℕ) → get_or xs i 0 < 256) → (i : ℕ) → get_or (take n xs) i 0 < 256
take_small zero xs small i = omega arith
take_small (suc n) [] small i = omega arith
take_small (suc n) (x ∷ xs) small zero = small 0
take_small (suc n) (x ∷ xs) small (suc i) = take_small n xs (λ j. small (suc j)) i

pub drop_small : (n : ℕ) (xs : List ℕ) → ((i : ℕ) → get_or xs i 0 < 256) → (i : ℕ) → get_or (drop n xs) i 0 < 256
drop_small n xs small i = rw (get_or-drop n xs i 0) (small (n + i))

module _ (xs : List ℕ) (small : (i : ℕ) → get_or xs i 0 < 256) where
  pub le4_lt : (at : ℕ) → le4 xs at < 2 ^ 32
  unfolding le4
  le4_lt at = omega (arith, small at, small (at + 1), small (at + 2), small (at + 3))

  pub le8_lt : (at : ℕ) → le8 xs at < 2 ^ 64
  unfolding le8
  le8_lt at = omega (arith, le4_lt at, le4_lt (at + 4))

  pub front : (n at : ℕ) → at + n ≤ length xs → little n (value (take n (drop at xs))) ≡ take n (drop at xs)
  front n at h =
      let e : length (take n (drop at xs)) ≡ n = length-take-le n (drop at xs) (simp length-drop (omega arith)) in
      let f = little_value (take n (drop at xs)) (take_small n (drop at xs) (drop_small at xs small)) in
      rw e at f

  pub four_back : (at : ℕ) → at + 4 ≤ length xs → drop at xs ≡ little 4 (le4 xs at) ++ drop (at + 4) xs
  four_back at h =
      parted 4 at xs ∙ ap (λ l. l ++ drop (at + 4) xs) (sym (front 4 at h) ∙ ap (little 4) (sym (le4_value xs at h)))

  pub eight_back : (at : ℕ) → at + 8 ≤ length xs → drop at xs ≡ little 8 (le8 xs at) ++ drop (at + 8) xs
  eight_back at h =
      parted 8 at xs ∙ ap (λ l. l ++ drop (at + 8) xs) (sym (front 8 at h) ∙ ap (little 8) (sym (le8_value xs at h)))
