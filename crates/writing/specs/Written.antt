-- What a writer has written, and what is left of its buffer.
use Rattle.std.specs.Prelude.{◌≡◌, ℕ, ◌+◌, ◌<◌, ◌≤◌, List, ◌++◌, length, take, drop}
use Rattle.writing.specs.Put.{Put}
use Rattle.writing.specs.declared.writer.Writer.{Writer}

abbrev pub written : Writer → List ℕ
written w = take w.len w.buffer.now

-- what stands behind it, as it was lent
abbrev pub rest : Writer → List ℕ
rest w = drop w.len w.buffer.now

-- these bytes are written behind what was, and all behind them is as it was, in the same buffer
pub record Appends (old : Writer) (ys : List ℕ) (new : Writer) : Type 0 where
  pub buffer : new.buffer.ghost_name ≡ old.buffer.ghost_name
  pub text : written new ≡ written old ++ ys
  pub behind : rest new ≡ drop (length ys) (rest old)

-- the bytes are written where there is room for them
abbrev pub Fills : Writer → List ℕ → Writer → Type 0
Fills old ys new = length ys ≤ length (rest old) → Appends old ys new

-- and nothing is changed where there is none
abbrev pub Writes : Writer → List ℕ → Writer → Type 0
Writes old ys new = Fills old ys new × (length (rest old) < length ys → new ≡ old)

-- these bytes stand at a place of what is written now, and all else is as it was, in the same buffer
pub record Replaces (old : Writer) (at : ℕ) (ys : List ℕ) (new : Writer) : Type 0 where
  pub buffer : new.buffer.ghost_name ≡ old.buffer.ghost_name
  pub text : Put (written old) at ys (written new)
  pub behind : rest new ≡ rest old

-- where so many bytes are written from the place on, and nothing is changed where there are not
abbrev pub Overwrites : Writer → ℕ → List ℕ → Writer → Type 0
Overwrites old at ys new = (at + length ys ≤ length (written old) → Replaces old at ys new) × (length (written old) < at + length ys → new ≡ old)
