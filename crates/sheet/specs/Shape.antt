-- The numbers of a sheet, and those that follow from them.
use Rattle.std.specs.Prelude.{◌≡◌, ℕ, zero, suc, ◌+◌, ◌*◌, ◌/◌, ◌^◌, ◌≤◌, Bool, cond, nat_le}

-- the first of i, i + 1, .., i + count - 1 that passes the test, or i + count where none does
unfoldable pub first : (ℕ → Bool) → (count i : ℕ) → ℕ
first test zero i = i
first test (suc count) i = cond (test i) i (first test count (i + 1))

-- the exponent of the least power of two that is at least x (2 ^ x is, so the search ends)
unfoldable pub log_up : ℕ → ℕ
log_up x = first (λ e. nat_le x (2 ^ e)) x 0

-- y is the least power of two that is at least x
pub record LeastPower (x y : ℕ) : Type 0 where
  pub exponent : ℕ
  pub is : y ≡ 2 ^ exponent
  pub enough : x ≤ y
  pub least : (d : ℕ) → x ≤ 2 ^ d → y ≤ 2 ^ d

-- m wires, of which the first l are public, and N rows
pub record Shape : Type 0 where
  pub m : ℕ
  pub l : ℕ
  pub N : ℕ

module _ (S : Shape) where
  open S use {m, l, N}

  -- k, the least power of two that is at least 2 l
  abbrev pub log_k : ℕ
  log_k = log_up (2 * l)

  abbrev pub k : ℕ
  k = 2 ^ log_k

  -- n, the least power of two that is at least k + 2 N: the number of rows of the square program
  abbrev pub log_of_n : ℕ
  log_of_n = log_up (k + 2 * N)

  abbrev pub n : ℕ
  n = 2 ^ log_of_n

  -- every stride-th row of the square program is a public row
  abbrev pub stride : ℕ
  stride = n / k

  -- M, the number of wires of the square program
  abbrev pub columns : ℕ
  columns = m + 2 * l + N
