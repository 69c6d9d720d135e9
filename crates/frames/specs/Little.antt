-- Numbers as bytes, the least byte first.
use Rattle.std.specs.Prelude.{ℕ, zero, suc, ◌+◌, ◌*◌, ◌/◌, ◌%◌, ◌<◌, List, [], ◌∷◌, take, drop, slice_index}

-- a number in so many bytes
unfoldable pub little : ℕ → ℕ → List ℕ
little zero v = []
little (suc n) v = v % 256 ∷ little n (v / 256)

-- the 4-byte number at a place; a byte past the end counts as 0
unfoldable pub le4 : List ℕ → ℕ → ℕ
le4 xs at = slice_index xs at + slice_index xs (at + 1) * 256 + slice_index xs (at + 2) * 65536 + slice_index xs (at + 3) * 16777216

-- the 8-byte number at a place
unfoldable pub le8 : List ℕ → ℕ → ℕ
le8 xs at = le4 xs at + le4 xs (at + 4) * 4294967296

-- so many bytes from a place on
abbrev pub part : List ℕ → ℕ → ℕ → List ℕ
part xs at n = take n (drop at xs)

-- each number is a byte
abbrev pub Bytes : List ℕ → Type 0
Bytes xs = (i : ℕ) → slice_index xs i < 256
