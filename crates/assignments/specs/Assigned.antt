-- The checks of an assignment file, in their order.
use Rattle.std.specs.Prelude.{ℕ, zero, suc, ◌+◌, ◌*◌, ◌&&◌, List, [], ◌∷◌, length, None, ◌==◌, nat_le, nat_lt}
use Rattle.refusal.specs.Due.{Due}
use Rattle.frames.specs.Little.{le4, le8}
use Rattle.frames.specs.Faults.{check, then}
use Rattle.frames.specs.Checks.{payload, laid, place_of}

-- the bytes 77 74 6E 73, the least first
abbrev pub magic : ℕ
magic = 0x77 + 0x74 * 256 + 0x6E * 65536 + 0x73 * 16777216

-- a header hs at a place, and values of so many bytes at another, for a table of n places:
-- 16 bytes, field size 8, the values' size, the prime, the count
unfoldable pub counted : List ℕ → ℕ → ℕ → ℕ → ℕ → ℕ → Due
counted hs at size to p n =
    check (length hs == 16) 8 at
    (check (le4 hs 0 == 8) 8 at
    (check (size == le4 hs 12 * 8) 8 to
    (check (le8 hs 4 == p) 9 (at + 4)
    (check (le4 hs 12 == n) 11 (at + 12) None))))

-- so many values from a place on, and each below the prime
unfoldable pub values : List ℕ → ℕ → ℕ → List ℕ
values xs zero at = []
values xs (suc n) at = le8 xs at ∷ values xs n (at + 8)

unfoldable pub valued : List ℕ → ℕ → ℕ → ℕ → Due
valued xs p zero at = None
valued xs p (suc n) at = check (nat_lt (le8 xs at) p) 10 at (valued xs p n (at + 8))

-- where the values begin
abbrev pub values_at : List ℕ → ℕ
values_at xs = place_of xs 2 + 12

-- the bytes, over this prime, for a table of n places; the first value is 1
unfoldable pub content : List ℕ → ℕ → ℕ → Due
content xs p n =
    then (laid magic 2 xs)
    (then (counted (payload xs (place_of xs 1)) (place_of xs 1 + 12) (length (payload xs (place_of xs 2))) (values_at xs) p n)
    (check (le8 xs (values_at xs) == 1) 10 (values_at xs)
    (valued xs p n (values_at xs))))

-- the table's length, then the bytes
unfoldable pub assigned : List ℕ → ℕ → ℕ → Due
assigned xs p n = check (nat_le 1 n && nat_le n 3072) 5 0 (content xs p n)
