-- The polynomials of a square program: row r belongs to the point ω^r.
use Rattle.std.specs.Prelude.{◌≡◌, ℕ, ◌*◌, ◌%◌, ◌<◌, List, length}
use Rattle.field.specs.Operations.{Operations, power, ones, root_of_order}
use Rattle.transform.specs.Polynomial.{table, coefficient, Takes, Quotient}
use Rattle.sheet.specs.Shape.{Shape, log_of_n, k, n, stride, columns}
use Rattle.square.specs.Program.{kind, U, u_row, w_row}

module _ {F : Type 0} (O : Operations F) (S : Shape) where
  open O use {one as 𝟙, mul as ◌⊗◌, inverse}
  open S use {m}

  infixl 70 ◌⊗◌
  abbrev pub ω : F
  ω = root_of_order O (log_of_n S)

  abbrev k/n : F
  k/n = ones O (k S) ⊗ inverse (ones O (n S))

  module _ (c : (matrix row wire : ℕ) → F) where
    -- h is a quotient for the assignment z
    pub record QuotientOf (z h : List F) : Type 0 where
      pub u : List F
      pub w : List F
      pub u_takes : Takes O (n S) ω (u_row O S c (coefficient O z)) u
      pub w_takes : Takes O (n S) ω (w_row O S c (coefficient O z)) w
      pub divides : Quotient O (n S) u w h

    -- a square assignment that has the values v on the sheet's wires, and a quotient for it
    pub record Pair (v z h : List F) : Type 0 where
      pub size : length z ≡ columns S
      pub one : coefficient O z 0 ≡ 𝟙
      pub extends : (i : ℕ) → i < m → coefficient O z i ≡ coefficient O v i
      pub quotient : QuotientOf z h

    -- the polynomial of wire j's coefficients in U's rows
    abbrev pub Column : ℕ → List F → Type 0
    Column j = Takes O (n S) ω (λ r. U O S c (kind S r) j)

    -- q is the public polynomial: p is the polynomial of degree below k that takes U's values in the public rows, which are rows 0, stride,
    -- 2 stride, .., at their points; at each e below n, q has k/n times p's coefficient at e mod k
    pub record PublicOf (z q : List F) : Type 0 where
      pub p : List F
      pub p_takes : Takes O (k S) (power O ω (stride S)) (λ t. u_row O S c (coefficient O z) (t * stride S)) p
      pub is : q ≡ table (n S) (λ e. k/n ⊗ coefficient O p (e % k S))
