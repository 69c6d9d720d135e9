-- The matrices by number.
use Rattle.std.specs.Prelude.{◌≡◌, ℕ, None, Result, nat_lt}
use Rattle.refusal.specs.Due.{Decided, unless}
use Rattle.refusal.specs.declared.refused.Refused.{Refused}
use Rattle.sheet.specs.declared.matrix.Matrix.{Matrix}
use Rattle.sheet.specs.declared.matrix.Matrix.TheVariants.{A, B, C}

abbrev pub number_of : Matrix → ℕ
number_of A = 0
number_of B = 1
number_of C = 2

-- the result is the matrix of this number; refused where the number is none of the three
abbrev pub Numbered : (number : ℕ) → Result Matrix Refused → Type 0
Numbered number r = Decided (unless (nat_lt number 3) 3 None) r (λ m. number_of m ≡ number) (Unit {0})
