-- What the laws ask of the numbers below 97: inverses and squares are tested at every number.
use Rattle.std.specs.Prelude.{◌≡◌, ℕ, ◌*◌, ◌%◌, ◌^◌, ◌<◌, Bool, true, false, not, ◌||◌, ◌==◌, refl}
use Rattle.std.proofs.Common.{inl, inr, lit<, lit≤}
use Rattle.std.proofs.lemmas.Bool.{agree_below_at, eqb-true, eq-eqb, or_cases, not-true}
use Rattle.modular.specs.Arithmetic.{Arithmetic}

-- the 95th power is an inverse
inverts : ℕ → Bool
inverts n = n == 0 || (n * (n ^ 95 % 97)) % 97 == 1

no_root : ℕ → Bool
no_root n = not ((n * n) % 97 == 28)

inverse97 : (n : ℕ) → n < 97 → ¬ (n ≡ 0) → (n * (n ^ 95 % 97)) % 97 ≡ 1
unfolding inverts
inverse97 n h d =
    elim (or_cases (n == 0) _ (agree_below_at inverts (λ _. true) 97 n refl h)) [
      | inl t ↦ absurd (d (eqb-true n 0 t))
      | inr t ↦ eqb-true _ _ t
    ]

no_square97 : (n : ℕ) → n < 97 → ¬ ((n * n) % 97 ≡ 28)
unfolding no_root
no_square97 n h e =
    let found : ((n * n) % 97 == 28) ≡ true = eq-eqb _ _ e in
    let none : ((n * n) % 97 == 28) ≡ false = not-true _ (agree_below_at no_root (λ _. true) 97 n refl h) in
    cc

pub arithmetic97 : Arithmetic 97 28 5
arithmetic97 = record {
  large = lit< tt;
  inverse = inverse97;
  adicity_two = lit≤ tt;
  top_power = refl;
  top_no_square = no_square97;
}
