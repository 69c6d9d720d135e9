-- Logarithms of numbers, and which numbers are powers of two.
use Rattle.std.specs.Prelude.{◌≡◌, ℕ, zero, suc, ◌^◌, Bool, true, cond, ◌↔◌, ◌==◌, nat_le}

-- the largest e up to the bound with 2 ^ e ≤ n, or 0
unfoldable pub log2_upto : ℕ → ℕ → ℕ
log2_upto zero n = 0
log2_upto (suc bound) n = cond (nat_le (2 ^ suc bound) n) (suc bound) (log2_upto bound n)

-- the largest e with 2 ^ e ≤ n, or 0; no e past n need be tried
unfoldable pub log2 : ℕ → ℕ
log2 n = log2_upto n n

abbrev pub is_power_of_two : ℕ → Bool
is_power_of_two n = n == 2 ^ log2 n

-- so the powers of two are the numbers 2 ^ e, and the logarithm of each is its e
abbrev pub Logarithms : Type 0
Logarithms = (n e : ℕ) → ((is_power_of_two n ≡ true) × (log2 n ≡ e)) ↔ (n ≡ 2 ^ e)
