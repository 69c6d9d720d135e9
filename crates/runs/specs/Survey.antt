-- A sheet made, the calls of a list, and what is then read from it, by one call.
use Rattle.std.specs.Prelude.{◌≡◌, ℕ, ◌+◌, ◌-◌, ◌*◌, Bool, ◌&&◌, List, length, Result, ◌==◌}
use Rattle.refusal.specs.Due.{Due, Decided, unless}
use Rattle.refusal.specs.declared.refused.Refused.{Refused}
use Rattle.field.specs.Operations.{Operations}
use Rattle.sheet.specs.Shape.{Shape, n, columns}
use Rattle.sheet.specs.Rules.{table_size, planned, make_due}
use Rattle.sheet.specs.Outcomes.{Answer, Numbers, first_values}
use Rattle.sheet.specs.Model.{Model, sheet, Stands, fresh, after_all}
use Rattle.sheet.specs.declared.head.Head.{Head}
use Rattle.sheet.specs.declared.entry.Entry.{Entry}
use Rattle.sheet.specs.declared.call.Call.{Call}
use Rattle.runs.specs.Runs.{Run, AllAsOwed}
use Rattle.runs.specs.Law.{Reading}
use Rattle.runs.specs.declared.lent.Lent.{Lent}
use Rattle.runs.specs.declared.surveyed.Surveyed.{Surveyed}

-- the lengths of what is lent besides the value table: one answer a call, the entry table, the three results, and two working buffers
pub record Lengths : Type 0 where
  pub answers : ℕ
  pub entries : ℕ
  pub extended : ℕ
  pub quotient : ℕ
  pub public : ℕ
  pub work : ℕ
  pub scratch : ℕ

abbrev pub buffers_fit : Shape → (calls : ℕ) → Lengths → Bool
buffers_fit S calls x =
    (x.answers == calls && x.entries == table_size)
    && ((x.extended == columns S && (x.quotient == n S - 1 && x.public == n S))
    && (x.work == columns S + 4 * n S && x.scratch == columns S + n S))

-- what survey is lent and what it writes: answers, entry table, value table, and the results of extend, quotient and public
pub record Buffers (F : Type 0) : Type 0 where
  pub answers : List Answer
  pub entries : List (Entry F)
  pub values : List F
  pub extended : List F
  pub quotient : List F
  pub public : List F

-- the same of the struct that holds them
module _ {F : Type 0} (x : Lent F) where
  abbrev pub held : Buffers F
  held =
      record {
        answers = x.answers.now;
        entries = x.entries.now;
        values = x.values.now;
        extended = x.extended.now;
        quotient = x.divided.now;
        public = x.published.now;
      }

  abbrev pub sizes : Lengths
  sizes =
      record {
        answers = length x.answers.now;
        entries = length x.entries.now;
        extended = length x.extended.now;
        quotient = length x.divided.now;
        public = length x.published.now;
        work = length x.work.now;
        scratch = length x.scratch.now;
      }

module _ {F : Type 0} (O : Operations F) (S : Shape) (calls : List (Call F)) where
  abbrev model : Model F
  model = after_all (fresh O S) calls

  -- x are the buffers as they were lent, y as they are left
  pub record Told (x y : Buffers F) (s : Surveyed) : Type 0 where
    -- the head as make gave it, and the run from there
    pub first : Head
    pub numbers : Numbers first S 0
    pub run : Run O (sheet first x.entries (first_values O S.m)) calls y.answers (sheet s.head y.entries y.values)
    -- what stands is the model's, and each call was answered as the model owed
    pub stands : Stands O (sheet s.head y.entries y.values) model
    pub owed : AllAsOwed O (fresh O S) calls y.answers
    -- the law over runs, at what extend, quotient and public answered and wrote
    pub reads : Reading O model s.extend y.extended s.quotient x.quotient y.quotient s.public y.public

  abbrev pub lengths : Buffers F → (work scratch : ℕ) → Lengths
  lengths x work scratch =
      record {
        answers = length x.answers;
        entries = length x.entries;
        extended = length x.extended;
        quotient = length x.quotient;
        public = length x.public;
        work = work;
        scratch = scratch;
      }

  abbrev pub survey_due : Lengths → (values : ℕ) → Due
  survey_due x values = planned O S (unless (buffers_fit S (length calls) x) 5 (make_due O S values))

  -- work and scratch are free
  abbrev pub Outcome : Buffers F → (work scratch : ℕ) → Result Surveyed Refused → Buffers F → Type 0
  Outcome x work scratch r y = Decided (survey_due (lengths x work scratch) (length x.values)) r (Told x y) (y ≡ x)
