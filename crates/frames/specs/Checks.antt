-- The checks that every file goes through before its payloads are read, in their order.
use Rattle.std.specs.Prelude.{ℕ, zero, suc, ◌+◌, ◌-◌, cond, ◌&&◌, ◌||◌, List, length, None, ◌==◌, nat_le}
use Rattle.refusal.specs.Due.{Due}
use Rattle.frames.specs.Little.{le4, le8, part}
use Rattle.frames.specs.Faults.{check, then}

-- of the section at a place: the place after it, and its payload. A head that is cut off leaves the file, too.
abbrev pub past : List ℕ → ℕ → ℕ
past xs at = at + 12 + le8 xs (at + 4)

abbrev pub payload : List ℕ → ℕ → List ℕ
payload xs at = part xs (at + 12) (le8 xs (at + 4))

-- the four bytes of the start, the version, and two sections at least
unfoldable pub started : ℕ → ℕ → List ℕ → Due
started magic version xs =
    check (nat_le 4 (length xs) && le4 xs 0 == magic) 8 0
    (check (nat_le 8 (length xs) && le4 xs 4 == version) 8 4
    (check (nat_le 12 (length xs) && nat_le 2 (le4 xs 8)) 8 8 None))

-- so many frames from a place on, and the file's end behind them
unfoldable pub framed : List ℕ → ℕ → ℕ → Due
framed xs zero at = check (at == length xs) 8 at None
framed xs (suc n) at = check (nat_le (past xs at) (length xs)) 8 at (framed xs n (past xs at))

-- so many sections that are neither of kind 1 nor of kind 2
unfoldable pub others : List ℕ → ℕ → ℕ → Due
others xs zero at = None
others xs (suc n) at = check (le4 xs at == 0 || nat_le 3 (le4 xs at)) 8 at (others xs n (past xs at))

-- first kind 1, second kind 2, then other kinds
unfoldable pub kinds : List ℕ → Due
kinds xs =
    check (le4 xs 12 == 1) 8 12
    (check (le4 xs (past xs 12) == 2) 8 (past xs 12)
    (others xs (le4 xs 8 - 2) (past xs (past xs 12))))

unfoldable pub laid : ℕ → ℕ → List ℕ → Due
laid magic version xs = then (started magic version xs) (then (framed xs (le4 xs 8) 12) (kinds xs))

-- the place of the first section of a kind, among so many from a place on
unfoldable pub sought : List ℕ → ℕ → ℕ → ℕ → ℕ
sought xs kind zero at = at
sought xs kind (suc n) at = cond (le4 xs at == kind) at (sought xs kind n (past xs at))

-- the place of the file's section of a kind
abbrev pub place_of : List ℕ → ℕ → ℕ
place_of xs kind = sought xs kind (le4 xs 8) 12
