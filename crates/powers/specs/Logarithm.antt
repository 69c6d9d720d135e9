-- Logarithms to the base 11 modulo 12289.
use Rattle.std.specs.Prelude.{◌≡◌, ℕ, ◌%◌, ◌^◌, ◌<◌}

-- x is the one exponent below 12288 whose power is v
pub record Logarithm (v x : ℕ) : Type 0 where
  pub below : x < 12288
  pub power : 11 ^ x % 12289 ≡ v
  pub only : (k : ℕ) → k < 12288 → 11 ^ k % 12289 ≡ v → k ≡ x
