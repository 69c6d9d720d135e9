-- Logarithms to the base two, and the binary digits of a power of two.
use Rattle.std.proofs.Common.{◌≡◌, ℕ, zero, suc, ◌+◌, ◌*◌, ◌/◌, ◌%◌, ◌^◌, ◌<◌, ◌≤◌, eqb, leb, sym, refl, ap, ◌∙◌, ap₂, arith, pow_pos, pow_mono}
use native.Mathlib.Nat.{two-pow-succ}
use native.Mathlib.Decide.{ℕ_discrete, dec_lt}
use lib.Count.{ones, ones_step}
use Rattle.std.proofs.lemmas.Bool.{cond-true, cond-false, le-leb, lt-leb, eq-eqb, ne_eqb, eqb-true}
use Rattle.transform.specs.Logarithm.{log2_upto, log2, is_power_of_two, Logarithms}

below_power : (e : ℕ) → e < 2 ^ e
below_power zero = omega arith
below_power (suc e) = omega (arith, two-pow-succ e, below_power e)

upto_is : (bound n e : ℕ) → e ≤ bound → 2 ^ e ≤ n → n < 2 * 2 ^ e → log2_upto bound n ≡ e
unfolding log2_upto
upto_is zero n e b low high = omega arith
upto_is (suc bound) n e b low high =
    elim (dec_lt n (2 ^ suc bound)) [
      | yes l ↦ cond-false (leb (2 ^ suc bound) n) _ _ (lt-leb _ _ l) ∙ upto_is bound n e (smaller l) low high
      | no l ↦ cond-true (leb (2 ^ suc bound) n) _ _ (le-leb _ _ (omega arith)) ∙ sym (largest l)
    ]
  where
    smaller : n < 2 ^ suc bound → e ≤ bound
    smaller l = elim (dec_lt bound e) [ yes k ↦ absurd (omega (arith, pow_mono k)) | no k ↦ omega arith ]

    largest : ¬ (n < 2 ^ suc bound) → e ≡ suc bound
    largest l = elim (dec_lt e (suc bound)) [ yes k ↦ absurd (omega (arith, two-pow-succ e, pow_mono k)) | no k ↦ omega arith ]

-- the e with 2 ^ e ≤ n < 2 ^ (e + 1)
pub log2_is : (n e : ℕ) → 2 ^ e ≤ n → n < 2 * 2 ^ e → log2 n ≡ e
unfolding log2
log2_is n e low high = upto_is n n e (omega (arith, below_power e)) low high

pub log2_power : (e : ℕ) → log2 (2 ^ e) ≡ e
log2_power e = log2_is (2 ^ e) e (omega arith) (omega (arith, pow_pos e))

-- one binary digit of a power of two is set, and of no other number
ones_nil : ones 0 ≡ 0
unfolding ones
ones_nil = refl

ones_none : (k n : ℕ) → n < 2 ^ k → ones n ≡ 0 → n ≡ 0
ones_none zero n h z = omega arith
ones_none (suc k) n h z =
    let half : n / 2 ≡ 0 = ones_none k (n / 2) (omega (arith, two-pow-succ k)) (omega (arith, ones_step n)) in
    omega (arith, ones_step n)

ones_one : (k n : ℕ) → n < 2 ^ k → ones n ≡ 1 → (e : ℕ) × (n ≡ 2 ^ e)
ones_one zero n h z = let none : n ≡ 0 = omega arith in absurd (omega (arith, ap ones none, ones_nil))
ones_one (suc k) n h z =
    elim (ℕ_discrete (n % 2) 0) [
      | yes even ↦ doubled even (ones_one k (n / 2) (omega (arith, two-pow-succ k)) (omega (arith, ones_step n)))
      | no odd ↦ (0, omega (arith, ones_none k (n / 2) (omega (arith, two-pow-succ k)) (omega (arith, ones_step n))))
    ]
  where
    doubled : n % 2 ≡ 0 → (e : ℕ) × (n / 2 ≡ 2 ^ e) → (e : ℕ) × (n ≡ 2 ^ e)
    doubled even (e, half) = (suc e, omega (arith, two-pow-succ e))

ones_power : (e : ℕ) → ones (2 ^ e) ≡ 1
ones_power zero = ones_step 1 ∙ ap (λ t. 1 + t) ones_nil
ones_power (suc e) =
    let even : 2 ^ suc e % 2 ≡ 0 = omega (arith, two-pow-succ e) in
    let half : 2 ^ suc e / 2 ≡ 2 ^ e = omega (arith, two-pow-succ e) in
    ones_step (2 ^ suc e) ∙ ap₂ (λ a b. a + ones b) even half ∙ ap (λ t. 0 + t) (ones_power e)

pub logarithms : Logarithms
logarithms n e = (
  (λ p. eqb-true n (2 ^ log2 n) p.0 ∙ ap (λ t. 2 ^ t) p.1),
  (λ is. let log : log2 n ≡ e = ap log2 is ∙ log2_power e in (eq-eqb n (2 ^ log2 n) (is ∙ ap (λ t. 2 ^ t) (sym log)), log)),
)

pub power_of_two_ones : (n : ℕ) → eqb (ones n) 1 ≡ is_power_of_two n
power_of_two_ones n =
    elim (ℕ_discrete (ones n) 1) [
      | yes one ↦ let power = ones_one n n (below_power n) one in eq-eqb (ones n) 1 one ∙ sym ((logarithms n power.0).1 power.1).0
      | no other ↦ ne_eqb (ones n) 1 other ∙ sym (ne_eqb n (2 ^ log2 n) (λ is. other (ap ones is ∙ ones_power (log2 n))))
    ]
