-- The search for the least power of two.
use Rattle.std.proofs.Common.{◌≡◌, ℕ, zero, suc, ◌+◌, ◌*◌, ◌/◌, ◌^◌, ◌<◌, ◌≤◌, max, Bool, true, false, cond, leb, sym, refl, ap, ◌∙◌, ⊎_elim, add-zero, arith, pow_mono, pow_pos}
use lib.Pow.{pow-lt}
use Rattle.std.specs.Int.{IsPowerOfTwo}
use Rattle.std.proofs.lemmas.Bool.{le-leb, leb-true, cases_lt, true≢false}
use Rattle.sheet.specs.Shape.{first, log_up, LeastPower}

power_above : (x : ℕ) → x < 2 ^ x
power_above zero = omega arith
power_above (suc x) = let h = power_above x in omega arith

-- where the number after the last passes, what is found passes and none before it does
first_finds : (test : ℕ → Bool) (count i : ℕ) → test (i + count) ≡ true → (test (first test count i) ≡ true) × ((d : ℕ) → i ≤ d → d < first test count i → test d ≡ false)
unfolding first
first_finds test zero i t = (ap test (sym (add-zero i)) ∙ t, λ d a b. absurd (omega arith))
first_finds test (suc count) i t =
    let shift : i + 1 + count ≡ i + suc count = omega arith in
    go (first_finds test count (i + 1) (ap test shift ∙ t)) (test i) refl
  where
    later : ℕ
    later = first test count (i + 1)

    go : (test later ≡ true) × ((d : ℕ) → i + 1 ≤ d → d < later → test d ≡ false) → (b : Bool) → test i ≡ b → (test (cond b i later) ≡ true) × ((d : ℕ) → i ≤ d → d < cond b i later → test d ≡ false)
    go rest true e = (e, λ d a k. absurd (omega arith))
    go rest false e = (
      rest.0,
      λ d a k. ⊎_elim (λ (q : d < i + 1). let at : d ≡ i = omega arith in ap test at ∙ e) (λ (q : i + 1 ≤ d). rest.1 d q k) (cases_lt d (i + 1)),
    )

pub log_up_least : (x : ℕ) → LeastPower x (2 ^ log_up x)
unfolding log_up
log_up_least x =
    let above = power_above x in
    let start : 0 + x ≡ x = omega arith in
    let found = first_finds (λ e. leb x (2 ^ e)) x 0 (le-leb x (2 ^ (0 + x)) (rw start (omega arith))) in
    record {
      exponent = first (λ e. leb x (2 ^ e)) x 0;
      is = refl;
      enough = leb-true x _ found.0;
      least = λ d k.
          ⊎_elim
          (λ (l : d < first (λ e. leb x (2 ^ e)) x 0). absurd (true≢false (sym (le-leb x (2 ^ d) k) ∙ found.1 d (omega arith) l)))
          (λ g. pow_mono g)
          (cases_lt d (first (λ e. leb x (2 ^ e)) x 0));
    }

-- the library's next power of two is the one that is searched for
pub next_is : (x p : ℕ) → IsPowerOfTwo p → x ≤ p → p / 2 < max 1 x → p ≡ 2 ^ log_up x
next_is x p (e, is) enough tight =
    let found = log_up_least x in
    let some = pow_pos (log_up x) in
    let above : ¬ (log_up x < e) = λ (l : log_up x < e). let more = pow_mono {i = suc (log_up x)} l in omega (arith, found.enough) in
    let most : 2 ^ e ≤ 2 ^ log_up x = pow_mono (omega (arith, above)) in
    let least : 2 ^ log_up x ≤ 2 ^ e = found.least e (omega arith) in
    omega arith

-- and its logarithm of a power is the exponent
pub exponent_is : (e r : ℕ) → 2 ^ r ≤ 2 ^ e → 2 ^ e < 2 * 2 ^ r → r ≡ e
exponent_is e r a b =
    let below : ¬ (r < e) = λ (l : r < e). let more = pow_mono {i = suc r} l in omega arith in
    let above : ¬ (e < r) = λ (l : e < r). let more = pow-lt l in omega arith in
    omega (arith, below, above)
