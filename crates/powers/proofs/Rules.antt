-- The rules of the two tables, each from one test over the whole table.
use Rattle.std.proofs.Common.{◌≡◌, ℕ, zero, suc, ◌+◌, ◌-◌, ◌*◌, ◌/◌, ◌%◌, ◌^◌, ◌<◌, ◌≤◌, Bool, true, ◌&&◌, eqb, ltb, List, length, get_or, sym, refl, ap, ◌∙◌, subst, le_of_suc-le-suc, not-suc-le-zero, mod-lt, one-mul, zero-mul, arith, lit<}
use Rattle.std.proofs.lemmas.Bool.{and_parts, eqb-true, ltb-true}
use Rattle.powers.specs.Logarithm.{Logarithm}
use Rattle.powers.proofs.Cycle.{split_pow, cycle, inverse, distinct}
use Rattle.powers.proofs.Walk.{each, each_at, grows, grows_at, misses_one, misses_at}

-- ── 11 has the order 12288 ──

-- computed once, and then only cited
none_before : misses_one 11 12289 12287 1 ≡ true
none_before = refl

pub turn : 11 ^ 12288 % 12289 ≡ 1
turn = refl

first : (d : ℕ) → 0 < d → d < 12288 → ¬ (11 ^ d % 12289 ≡ 1)
first zero h l e = not-suc-le-zero h
first (suc k) h l e =
    misses_at 11 12289 12287 1 none_before k (le_of_suc-le-suc l) (ap (λ (w : ℕ). w % 12289) (one-mul (11 ^ suc k)) ∙ e)

pub never_zero : (k : ℕ) → ¬ (11 ^ k % 12289 ≡ 0)
never_zero k e =
    let back : ℕ = 11 ^ (12288 - k % 12288) % 12289 in
    let one : (0 * back) % 12289 ≡ 1 = inverse 11 12288 12289 turn (k % 12288) 0 (omega (arith, mod-lt k {m = 12288} (lit< tt))) (cycle 11 12288 12289 turn k ∙ e) in
    let none : ◌≡◌ {A = ℕ} 0 1 = sym (ap (λ (w : ℕ). w % 12289) (zero-mul back)) ∙ one in
    cc

-- 11 to the x with small numbers, since the checker pays for each bit
abbrev quick : ℕ → ℕ
quick x = (11 ^ (x % 128) * (11 ^ 128 % 12289) ^ (x / 128)) % 12289

-- the entry x at the place v is below 12288, and 11 to the x is v
abbrev pub is_log : ℕ → ℕ → Bool
is_log v x = ltb x 12288 && eqb (quick x) v

logarithm : (v x : ℕ) → is_log v x ≡ true → Logarithm v x
logarithm v x t =
    let passed = and_parts (ltb x 12288) (eqb (quick x) v) t in
    let below : x < 12288 = ltb-true x 12288 passed.0 in
    let power : 11 ^ x % 12289 ≡ v = sym (split_pow 11 128 12289 x) ∙ eqb-true (quick x) v passed.1 in
    record { below = below; power = power; only = λ k h e. distinct 11 12288 12289 turn first k x h below (e ∙ sym power) }

-- ── The tables ──

module _ (xs : List ℕ) (whole : length xs ≡ 12288) where
  pub power_at : grows 11 12289 1 xs ≡ true → (i : ℕ) → get_or xs (i % 12288) 0 ≡ 11 ^ i % 12289
  power_at test i =
      grows_at 11 12289 1 xs test (i % 12288) (subst (λ (n : ℕ). i % 12288 < n) (sym whole) (mod-lt i (lit< tt)))
      ∙ ap (λ (w : ℕ). w % 12289) (one-mul (11 ^ (i % 12288)))
      ∙ cycle 11 12288 12289 turn i

  pub log_at : each is_log 1 xs ≡ true → (v : ℕ) → 1 ≤ v → v ≤ 12288 → Logarithm v (get_or xs (v - 1) 0)
  log_at test v h k =
      let place : 1 + (v - 1) ≡ v = omega arith in
      logarithm v (get_or xs (v - 1) 0)
      (subst (λ (n : ℕ). is_log n (get_or xs (v - 1) 0) ≡ true) place (each_at is_log 1 xs test (v - 1) (omega arith)))
