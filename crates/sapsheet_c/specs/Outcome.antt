-- What a call comes to, and what it answers and leaves then.
use Rattle.std.specs.Prelude.{◌≡◌, ℕ, ◌*◌, ◌≤◌, List, ◌++◌, length, drop}
use Rattle.assignments.specs.Assignment.{value_bytes}

pub data Outcome : Type 0 where
  -- a refusal by its number
  refused : (number : ℕ) → Outcome
  -- the coefficients of the quotient as numbers, lowest first
  quotient : (numbers : List ℕ) → Outcome

-- r is the answer, old and new are the buffer before and after: a refusal, whose number is never 0, leaves it alone; a quotient stands at its
-- front, each number in 8 bytes with the least byte first, and what is behind is as it was
abbrev pub Answered : Outcome → (old : List ℕ) (r : ℕ) (new : List ℕ) → Type 0
Answered (refused number) old r new = (r ≡ number) × (1 ≤ number) × (new ≡ old)
Answered (quotient numbers) old r new = (r ≡ 0) × (new ≡ value_bytes numbers ++ drop (8 * length numbers) old)
