-- Bytes written into a buffer.
use Rattle.std.specs.Prelude.{◌≡◌, ℕ, ◌+◌, ◌<◌, ◌≤◌, List, ◌++◌, length, take, drop}

-- these bytes stand at a place now, and all else is as it was
abbrev pub Put : List ℕ → ℕ → List ℕ → List ℕ → Type 0
Put old at ys new = new ≡ take at old ++ (ys ++ drop (at + length ys) old)

-- so many bytes are put where there is room for them, and nothing is changed where there is none
abbrev pub Puts : List ℕ → ℕ → ℕ → List ℕ → List ℕ → Type 0
Puts old at n ys new = (at + n ≤ length old → Put old at ys new) × (length old < at + n → new ≡ old)
