-- The powers of g modulo m, where the n-th is 1: exponents count modulo n, so products and inverses go by exponents.
use Rattle.std.proofs.Common.{◌≡◌, ℕ, zero, suc, ◌+◌, ◌-◌, ◌*◌, ◌/◌, ◌%◌, ◌^◌, ◌<◌, ◌≤◌, sym, ap, ◌∙◌, inl, inr, mul-zero, mul-one, mul-suc, eq-or-lt_of_le, pow-suc, arith, pow-add}
use Rattle.std.proofs.Math.Nat.{pow-zero, mod-add-div, add-mod_left}
use Rattle.std.proofs.lemmas.Nat.{mul-mod_first, mul-mod_second, pow-mod}
use Rattle.std.proofs.lemmas.Bool.{cases_lt}

pub pow_mul : (b m n : ℕ) → (b ^ m) ^ n ≡ b ^ (m * n)
pow_mul b m zero = pow-zero (b ^ m) ∙ sym (ap (λ (x : ℕ). b ^ x) (mul-zero m) ∙ pow-zero b)
pow_mul b m (suc n) =
    pow-suc (b ^ m) n
    ∙ ap (λ (x : ℕ). x * b ^ m) (pow_mul b m n)
    ∙ sym (pow-add b (m * n) m)
    ∙ ap (λ (x : ℕ). b ^ x) (sym (mul-suc m n))

one_pow : (e : ℕ) → 1 ^ e ≡ 1
one_pow zero = pow-zero 1
one_pow (suc e) = pow-suc 1 e ∙ mul-one (1 ^ e) ∙ one_pow e

-- an exponent taken apart by its remainder, with the large part reduced
pub split_pow : (g n m k : ℕ) → (g ^ (k % n) * (g ^ n % m) ^ (k / n)) % m ≡ g ^ k % m
split_pow g n m k =
    let low : ℕ = g ^ (k % n) in
    sym (mul-mod_second low ((g ^ n % m) ^ (k / n)) m)
    ∙ ap (λ (x : ℕ). (low * x) % m) (pow-mod (g ^ n) (k / n) m)
    ∙ mul-mod_second low ((g ^ n) ^ (k / n)) m
    ∙ ap (λ (x : ℕ). x % m)
    (ap (λ (x : ℕ). low * x) (pow_mul g n (k / n)) ∙ sym (pow-add g (k % n) (n * (k / n))) ∙ ap (λ (x : ℕ). g ^ x) (mod-add-div k n))

module _ (g n m : ℕ) (turn : g ^ n % m ≡ 1) where
  pub cycle : (k : ℕ) → g ^ (k % n) % m ≡ g ^ k % m
  cycle k =
      ap (λ (x : ℕ). x % m)
      (sym (mul-one (g ^ (k % n))) ∙ ap (λ (x : ℕ). g ^ (k % n) * x) (sym (one_pow (k / n)) ∙ ap (λ (x : ℕ). x ^ (k / n)) (sym turn)))
      ∙ split_pow g n m k

  joined : (x y : ℕ) → ((g ^ x % m) * (g ^ y % m)) % m ≡ g ^ (x + y) % m
  joined x y = mul-mod_second (g ^ x % m) (g ^ y) m ∙ mul-mod_first (g ^ x) (g ^ y) m ∙ ap (λ (z : ℕ). z % m) (sym (pow-add g x y))

  pub product : (x y a b : ℕ) → g ^ x % m ≡ a → g ^ y % m ≡ b → g ^ (x + y) % m ≡ (a * b) % m
  product x y a b p q = sym (joined x y) ∙ ap (λ (z : ℕ). (z * (g ^ y % m)) % m) p ∙ ap (λ (z : ℕ). (a * z) % m) q

  pub inverse : (x a : ℕ) → x ≤ n → g ^ x % m ≡ a → (a * (g ^ (n - x) % m)) % m ≡ 1
  inverse x a h p =
      ap (λ (z : ℕ). (z * (g ^ (n - x) % m)) % m) (sym p) ∙ joined x (n - x) ∙ ap (λ (z : ℕ). g ^ z % m) (omega arith) ∙ turn

  again : (d : ℕ) → g ^ (n + d) % m ≡ g ^ d % m
  again d = sym (cycle (n + d)) ∙ ap (λ (w : ℕ). g ^ w % m) (add-mod_left n d) ∙ cycle d

  -- two equal powers differ by a power that is 1
  cancel : (x y : ℕ) → x ≤ y → y ≤ n → g ^ x % m ≡ g ^ y % m → g ^ (y - x) % m ≡ 1
  cancel x y h k e =
      let z : ℕ = n - x in
      let back : g ^ (x + z) % m ≡ g ^ (y + z) % m = sym (joined x z) ∙ ap (λ (w : ℕ). (w * (g ^ z % m)) % m) e ∙ joined y z in
      sym (again (y - x)) ∙ ap (λ (w : ℕ). g ^ w % m) (omega arith) ∙ sym back ∙ ap (λ (w : ℕ). g ^ w % m) (omega arith) ∙ turn

  -- where no smaller power is 1, the n powers are distinct
  module _ (first : (d : ℕ) → 0 < d → d < n → ¬ (g ^ d % m ≡ 1)) where
    ordered : (x y : ℕ) → x ≤ y → y < n → g ^ x % m ≡ g ^ y % m → x ≡ y
    ordered x y h k e =
        elim (eq-or-lt_of_le h) [
          | inl s ↦ s
          | inr l ↦ absurd (first (y - x) (omega arith) (omega arith) (cancel x y h (omega arith) e))
        ]

    pub distinct : (x y : ℕ) → x < n → y < n → g ^ x % m ≡ g ^ y % m → x ≡ y
    distinct x y h k e = elim (cases_lt y x) [ inl l ↦ sym (ordered y x (omega arith) h (sym e)) | inr l ↦ ordered x y l k e ]
