-- The model of a list of calls: which entries and values stand, told from the calls' arguments alone.
use Rattle.std.specs.Prelude.{◌≡◌, ℕ, ◌≤◌, List, [], ◌∷◌, ◌++◌, length, take, Some, None, slice_set}
use Rattle.refusal.specs.Due.{Due}
use Rattle.field.specs.Operations.{Operations}
use Rattle.sheet.specs.Shape.{Shape, log_of_n}
use Rattle.sheet.specs.Rules.{table_size, enter_due, assign_due}
use Rattle.sheet.specs.Outcomes.{Numbers, first_values, entry}
use Rattle.sheet.specs.declared.head.Head.{Head}
use Rattle.sheet.specs.declared.entry.Entry.{Entry}
use Rattle.sheet.specs.declared.call.Call.{Call}
use Rattle.sheet.specs.declared.call.Call.TheVariants.{Enter, Assign, Extend, Quotient, Public}

pub record Model (F : Type 0) : Type 0 where
  pub shape : Shape
  pub entries : List (Entry F)
  pub values : List F

-- a head and its two tables
pub record Sheet (F : Type 0) : Type 0 where
  pub head : Head
  pub entries : List (Entry F)
  pub values : List F

abbrev pub sheet : {F : Type 0} → Head → List (Entry F) → List F → Sheet F
sheet h es vs = record { head = h; entries = es; values = vs }

module _ {F : Type 0} where
  -- as a granted make leaves a sheet: no entry, one on wire 0 and zero elsewhere
  abbrev pub fresh : Operations F → Shape → Model F
  fresh O S = record { shape = S; entries = []; values = first_values O S.m }

  -- one entry more, unless a refusal is due
  abbrev pub with_entry : Due → Entry F → Model F → Model F
  with_entry None e b = record { shape = b.shape; entries = b.entries ++ e ∷ []; values = b.values }
  with_entry (Some _) e b = b

  -- another value on a wire, unless a refusal is due
  abbrev pub with_value : Due → (wire : ℕ) → F → Model F → Model F
  with_value None wire x b = record { shape = b.shape; entries = b.entries; values = slice_set b.values wire x }
  with_value (Some _) wire x b = b

  -- one call; those that only read leave the model alone
  abbrev pub after : Model F → Call F → Model F
  after b (Enter entries matrix row wire x) = with_entry (enter_due b.shape (length b.entries) entries matrix row wire) (entry matrix row wire x) b
  after b (Assign values wire x) = with_value (assign_due b.shape values wire) wire x b
  after b (Extend _ _ _) = b
  after b (Quotient _ _ _ _) = b
  after b (Public _ _) = b

  abbrev pub after_all : Model F → List (Call F) → Model F
  after_all b [] = b
  after_all b (c ∷ cs) = after_all (after b c) cs

  -- the sheet is as the model says, and the field has the subgroup that its rows need
  pub record Stands (O : Operations F) (s : Sheet F) (b : Model F) : Type 0 where
    pub numbers : Numbers s.head b.shape (length b.entries)
    pub table : length s.entries ≡ table_size
    pub used : take s.head.used s.entries ≡ b.entries
    pub places : length s.values ≡ b.shape.m
    pub values : s.values ≡ b.values
    pub root : log_of_n b.shape ≤ O.adicity
