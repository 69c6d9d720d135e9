-- The law over runs, whole: what extend, quotient and public write after any list of calls.
use Rattle.std.specs.Prelude.{◌≡◌, ℕ, ◌+◌, ◌-◌, ◌*◌, ◌<◌, List, length, Ok, MatchResult}
use Rattle.refusal.specs.Numbers.{number_of}
use Rattle.field.specs.Operations.{Operations, sum}
use Rattle.field.specs.Laws.{Laws}
use Rattle.transform.specs.Polynomial.{coefficient, Takes}
use Rattle.sheet.specs.Shape.{Shape, n, columns}
use Rattle.sheet.specs.Rules.{table_size}
use Rattle.sheet.specs.Outcomes.{Answer, Made}
use Rattle.sheet.specs.Model.{Model, Sheet, sheet, Stands, fresh, after_all}
use Rattle.sheet.specs.declared.head.Head.{Head}
use Rattle.sheet.specs.declared.entry.Entry.{Entry}
use Rattle.sheet.specs.declared.call.Call.{Call}
use Rattle.square.specs.Rows.{position, AllHold, FirstFailing}
use Rattle.square.specs.Program.{extended}
use Rattle.square.specs.Polynomials.{ω, Pair, Column}
use Rattle.square.specs.Outcomes.{Extended, Divided, Published}
use Rattle.runs.specs.Runs.{Run, AllAsOwed}

-- refused with this number at this place
abbrev pub RefusedWith : Answer → (number place : ℕ) → Type 0
RefusedWith r number place = MatchResult r (λ _. ⊥) (λ e. (number_of e.reason ≡ number) × (e.at ≡ place))

module _ {F : Type 0} (O : Operations F) where
  open O use {mul as ◌⊗◌}

  infixl 70 ◌⊗◌
  -- there is exactly one polynomial that takes these values at the points of the n rows
  pub record OnePolynomial (S : Shape) (y : ℕ → F) : Type 0 where
    pub polynomial : List F
    pub takes : Takes O (n S) (ω O S) y polynomial
    pub once : (c : List F) → Takes O (n S) (ω O S) y c → c ≡ polynomial

  -- What stands and what the three calls write, for the model b: z is what extend wrote, h what quotient wrote (where it is granted, by
  -- its answer q), and p what public wrote.
  module _ (b : Model F) where
    open b use {shape, values}

    abbrev c : (matrix row wire : ℕ) → F
    c = position O b.entries

    abbrev v : ℕ → F
    v = coefficient O values

    -- (a), where every row holds: extend and quotient write a pair, and there is no other
    pub record Satisfied (z : List F) (q : Answer) (h : List F) : Type 0 where
      pub granted : q ≡ Ok tt
      pub pair : Pair O shape c values z h
      pub only : (z' h' : List F) → Pair O shape c values z' h' → (z' ≡ z) × (h' ≡ h)

    -- (a), where row i is the first that fails: there is no pair, and quotient says so and leaves its buffer as it was
    pub record Unsatisfied (i : ℕ) (q : Answer) (buffer h : List F) : Type 0 where
      pub refused : RefusedWith q 7 i
      pub unchanged : h ≡ buffer
      pub none : (z' h' : List F) → ¬ Pair O shape c values z' h'

    -- (b), whether rows hold or not: the public wires' columns, each times its value, sum to what public writes
    pub record PublicSum (p : List F) : Type 0 where
      pub size : length p ≡ n shape
      pub columns : (j : ℕ) → j < shape.l → (column : List F) × Column O shape c j column
      pub sums : (column : ℕ → List F) → ((j : ℕ) → j < shape.l → Column O shape c j (column j))
          → (e : ℕ) → e < n shape → sum O shape.l (λ j. v j ⊗ coefficient O (column j) e) ≡ coefficient O p e

    pub record Reading (x : Answer) (z : List F) (q : Answer) (buffer h : List F) (r : Answer) (p : List F) : Type 0 where
      pub polynomials : (y : ℕ → F) → OnePolynomial shape y
      pub extend_granted : x ≡ Ok tt
      pub extend_writes : z ≡ extended O shape c v
      pub satisfied : AllHold O shape c v → Satisfied z q h
      pub unsatisfied : (i : ℕ) → FirstFailing O shape c v i → Unsatisfied i q buffer h
      pub public_granted : r ≡ Ok tt
      pub public_sum : PublicSum p

  -- For every shape that make grants and every list of calls from the fresh sheet: sheet and answers are as the model says, and extend,
  -- quotient and public, handed the sheet's tables and buffers of the stated lengths, do what Reading says.
  pub record AfterRun (b : Model F) (s : Sheet F) : Type 0 where
    pub stands : Stands O s b
    pub reads : (z₀ z h₀ h p₀ p : List F) (work : ℕ) (x q r : Answer)
        → length z₀ ≡ columns b.shape → length h₀ ≡ n b.shape - 1 → work ≡ columns b.shape + 4 * n b.shape → length p₀ ≡ n b.shape
        → Extended O s.head s.entries s.values z₀ x z
        → Divided O s.head s.entries s.values h₀ work q h
        → Published O s.head s.values p₀ r p
        → Reading b x z q h₀ h r p

  abbrev pub LawOverRuns : Type 0
  LawOverRuns = Laws O
      → (S : Shape) (v₀ v : List F) (h : Head) (es : List (Entry F)) (t : Sheet F) (calls : List (Call F)) (answers : List Answer)
      → Made O S v₀ (Ok h) v → length es ≡ table_size → Run O (sheet h es v) calls answers t
      → AfterRun (after_all (fresh O S) calls) t × AllAsOwed O (fresh O S) calls answers
