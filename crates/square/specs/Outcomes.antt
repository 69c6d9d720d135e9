-- What extend, sums, quotient and public answer and leave, for all inputs. They change nothing but their result; quotient's working buffer is free.
use Rattle.std.specs.Prelude.{◌≡◌, ℕ, List, [], length, take, Result}
use Rattle.refusal.specs.Due.{Decided}
use Rattle.refusal.specs.declared.refused.Refused.{Refused}
use Rattle.field.specs.Operations.{Operations}
use Rattle.transform.specs.Polynomial.{coefficient}
use Rattle.sheet.specs.Outcomes.{Answer, shape_of}
use Rattle.sheet.specs.declared.head.Head.{Head}
use Rattle.sheet.specs.declared.entry.Entry.{Entry}
use Rattle.square.specs.Rows.{position, row_sum}
use Rattle.square.specs.declared.row_sums.RowSums.{RowSums}
use Rattle.square.specs.Program.{extended}
use Rattle.square.specs.Polynomials.{QuotientOf, PublicOf}
use Rattle.square.specs.Rules.{extend_due, sums_due, quotient_due, public_due}

module _ {F : Type 0} (O : Operations F) (h : Head) where
  -- es and vs: the entry table and the value table; out and out': the result buffer before and after
  abbrev pub Extended : (es : List (Entry F)) (vs out : List F) → Answer → (out' : List F) → Type 0
  Extended es vs out r out' =
      let used = take h.used es in
      Decided (extend_due O (shape_of h) (length es) (length vs) (length out) used vs) r
      (λ _. out' ≡ extended O (shape_of h) (position O used) (coefficient O vs))
      (out' ≡ out)

  -- the three sums of a row
  abbrev pub Summed : (es : List (Entry F)) (vs : List F) (row : ℕ) → Result (RowSums F) Refused → Type 0
  Summed es vs row r =
      let used = take h.used es in
      let sum = λ (matrix : ℕ). row_sum O (shape_of h) (position O used) (coefficient O vs) matrix row in
      Decided (sums_due O (shape_of h) (length es) (length vs) row used vs) r
      (λ s. (s.a ≡ sum 0) × (s.b ≡ sum 1) × (s.c ≡ sum 2))
      (Unit {0})

  abbrev pub Divided : (es : List (Entry F)) (vs out : List F) (work : ℕ) → Answer → (out' : List F) → Type 0
  Divided es vs out work r out' =
      let used = take h.used es in
      let c = position O used in
      Decided (quotient_due O (shape_of h) (length es) (length vs) (length out) work used vs) r
      (λ _. QuotientOf O (shape_of h) c (extended O (shape_of h) c (coefficient O vs)) out')
      (out' ≡ out)

  -- no entry counts in the public rows
  abbrev pub Published : (vs out : List F) → Answer → (out' : List F) → Type 0
  Published vs out r out' =
      Decided (public_due O (shape_of h) (length vs) (length out) vs) r
      (λ _. PublicOf O (shape_of h) (position O []) vs out')
      (out' ≡ out)
