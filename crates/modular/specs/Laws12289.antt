-- What the laws ask of the numbers below 12289: inverses and squares are tested at every number.
use Rattle.std.specs.Prelude.{◌≡◌, refl, Bool, true, false, not, ◌||◌, ℕ, zero, suc, ◌+◌, ◌-◌, ◌*◌, ◌%◌, ◌^◌, ◌<◌, eqb}
use Rattle.std.proofs.Common.{inl, inr, sym, ap, ◌∙◌, one-mul, pow-suc, arith, lit<, lit≤, pow-add, pow_pos}
use Rattle.std.proofs.Math.Nat.{pow-zero, two-pow-succ}
use Rattle.std.proofs.lemmas.Bool.{agree_below, agree_below_at, eqb-true, eq-eqb, or_cases, not-true}
use Rattle.std.proofs.lemmas.Nat.{mul-mod_first, mul-mod}
use Rattle.modular.specs.Arithmetic.{Arithmetic}

-- the powers of n to the 2, 5, 11, .., 3 * 2 ^ k - 1, reduced at each step, so that the test below is cheap
ladder : ℕ → ℕ → ℕ
ladder n zero = (n * n) % 12289
ladder n (suc k) = (((ladder n k * ladder n k) % 12289) * n) % 12289

ladder_is : (n k : ℕ) → ladder n k ≡ n ^ (3 * 2 ^ k - 1) % 12289
unfolding ladder
ladder_is n zero = ap (λ (w : ℕ). w % 12289) (sym (pow-suc n 1 ∙ ap (λ (w : ℕ). w * n) (pow-suc n 0 ∙ ap (λ (w : ℕ). w * n) (pow-zero n) ∙ one-mul n)))
ladder_is n (suc k) =
    let m : ℕ = 3 * 2 ^ k - 1 in
    let p : ℕ = n ^ m in
    let next : suc (m + m) ≡ 3 * 2 ^ suc k - 1 = omega (arith, pow_pos k, two-pow-succ k) in
    ap (λ (w : ℕ). (((w * w) % 12289) * n) % 12289) (ladder_is n k)
    ∙ ap (λ (w : ℕ). (w * n) % 12289) (sym (mul-mod p p 12289))
    ∙ mul-mod_first (p * p) n 12289
    ∙ ap (λ (w : ℕ). w % 12289) (ap (λ (w : ℕ). w * n) (sym (pow-add n m m)) ∙ sym (pow-suc n (m + m)) ∙ ap (λ (w : ℕ). n ^ w) next)

inverts : ℕ → Bool
inverts n = eqb n 0 || eqb ((n * ladder n 12) % 12289) 1

-- the ladder is open at numerals alone: at a variable it would write n out 2 ^ 12 times
tested : agree_below inverts (λ _. true) 12289 ≡ true
unfolding inverts ladder
tested = refl

no_root : ℕ → Bool
no_root n = not (eqb ((n * n) % 12289) 1331)

inverse12289 : (n : ℕ) → n < 12289 → ¬ (n ≡ 0) → (n * (n ^ 12287 % 12289)) % 12289 ≡ 1
unfolding inverts
inverse12289 n h d =
    ap (λ (w : ℕ). (n * w) % 12289) (sym (ladder_is n 12))
    ∙ elim (or_cases (eqb n 0) _ (agree_below_at inverts (λ _. true) 12289 n tested h)) [
      | inl t ↦ absurd (d (eqb-true n 0 t))
      | inr t ↦ eqb-true _ _ t
    ]

no_square12289 : (n : ℕ) → n < 12289 → ¬ ((n * n) % 12289 ≡ 1331)
unfolding no_root
no_square12289 n h e =
    let found : eqb ((n * n) % 12289) 1331 ≡ true = eq-eqb _ _ e in
    let none : eqb ((n * n) % 12289) 1331 ≡ false = not-true _ (agree_below_at no_root (λ _. true) 12289 n refl h) in
    cc

pub arithmetic12289 : Arithmetic 12289 1331 12
arithmetic12289 = record {
  large = lit< tt;
  inverse = inverse12289;
  adicity_two = lit≤ tt;
  top_power = refl;
  top_no_square = no_square12289;
}
