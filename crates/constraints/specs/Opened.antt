-- The checks of a constraint file, in their order.
use Rattle.std.specs.Prelude.{ℕ, zero, suc, ◌+◌, ◌*◌, List, length, None, ◌==◌, nat_le, nat_lt}
use Rattle.refusal.specs.Due.{Due}
use Rattle.frames.specs.Little.{le4, le8}
use Rattle.frames.specs.Faults.{check, then}
use Rattle.frames.specs.Checks.{payload, laid, place_of}

-- the bytes 72 31 63 73, the least first
abbrev pub magic : ℕ
magic = 0x72 + 0x31 * 256 + 0x63 * 65536 + 0x73 * 16777216

-- a header whose payload begins at a place: 40 bytes, field size 8, the prime, and wires enough
unfoldable pub headed : List ℕ → ℕ → ℕ → Due
headed hs at p =
    check (length hs == 40) 8 at
    (check (le4 hs 0 == 8) 8 at
    (check (le8 hs 4 == p) 9 (at + 4)
    (check (nat_le (1 + le4 hs 16 + le4 hs 20 + le4 hs 24) (le4 hs 12)) 8 (at + 12) None)))

-- so many items from a place on: each wire below the wires w, each coefficient below the prime
unfoldable pub items : List ℕ → ℕ → ℕ → ℕ → ℕ → Due
items xs w p zero at = None
items xs w p (suc n) at =
    check (nat_lt (le4 xs at) w) 10 at
    (check (nat_lt (le8 xs (at + 4)) p) 10 (at + 4)
    (items xs w p n (at + 12)))

-- the place after the list at a place
abbrev pub beyond : List ℕ → ℕ → ℕ
beyond xs at = at + 4 + 12 * le4 xs at

-- so many lists from a place on, up to where their section ends
unfoldable pub lists : List ℕ → ℕ → ℕ → ℕ → ℕ → ℕ → Due
lists xs w p stop zero at = check (at == stop) 8 at None
lists xs w p stop (suc n) at =
    check (nat_le (beyond xs at) stop) 8 at
    (then (items xs w p (le4 xs at) (at + 4)) (lists xs w p stop n (beyond xs at)))

-- the payload of the header, where the rows begin and where they end
abbrev pub header : List ℕ → List ℕ
header xs = payload xs (place_of xs 1)

abbrev pub rows_at : List ℕ → ℕ
rows_at xs = place_of xs 2 + 12

abbrev pub rows_stop : List ℕ → ℕ
rows_stop xs = rows_at xs + length (payload xs (place_of xs 2))

-- the three lists of each row
abbrev pub rowed : List ℕ → ℕ → Due
rowed xs p = lists xs (le4 (header xs) 12) p (rows_stop xs) (3 * le4 (header xs) 36) (rows_at xs)

-- the whole file, over this prime
unfoldable pub opened : List ℕ → ℕ → Due
opened xs p = then (laid magic 1 xs) (then (headed (header xs) (place_of xs 1 + 12) p) (rowed xs p))
