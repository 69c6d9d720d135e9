-- A list of calls over one sheet, each with exactly the outcome that its own contract states.
use Rattle.std.specs.Prelude.{◌≡◌, ℕ, ◌+◌, ◌-◌, ◌*◌, ◌↔◌, List, [], ◌∷◌, length}
use Rattle.refusal.specs.Due.{Due, Decided}
use Rattle.field.specs.Operations.{Operations}
use Rattle.sheet.specs.Rules.{table_size, enter_due, assign_due}
use Rattle.sheet.specs.Outcomes.{Answer, Entered, Assigned}
use Rattle.sheet.specs.Model.{Model, Sheet, Stands, after, after_all}
use Rattle.sheet.specs.declared.entry.Entry.{Entry}
use Rattle.sheet.specs.declared.call.Call.{Call}
use Rattle.sheet.specs.declared.call.Call.TheVariants.{Enter, Assign, Extend, Quotient, Public}
use Rattle.square.specs.Rules.{extend_due, quotient_due, public_due}
use Rattle.square.specs.Outcomes.{Extended, Divided, Published}

-- What a listed call is handed in a table's place: the sheet's own where the listed length is the stated one, else another of another length.
-- own and given are the sheet's table and the one handed over, before the call; own' and given' are the same after it.
pub record Handed {X : Type 0} (stated listed : ℕ) (own own' given given' : List X) : Type 0 where
  pub right : listed ≡ stated → (given ≡ own) × (own' ≡ given')
  pub wrong : ¬ (listed ≡ stated) → (¬ (length given ≡ stated)) × (own' ≡ own)

-- A result buffer, which is none of the sheet's, has the stated length just where that is listed.
abbrev pub Lent : {X : Type 0} → (stated listed : ℕ) → List X → Type 0
Lent stated listed out = (listed ≡ stated) ↔ (length out ≡ stated)

module _ {F : Type 0} (O : Operations F) (s t : Sheet F) where
  -- nothing of the sheet is changed
  pub record Same : Type 0 where
    pub head : t.head ≡ s.head
    pub entries : t.entries ≡ s.entries
    pub values : t.values ≡ s.values

  pub record Enters (entries matrix row wire : ℕ) (x : F) (r : Answer) : Type 0 where
    pub given : List (Entry F)
    pub given' : List (Entry F)
    pub handed : Handed table_size entries s.entries t.entries given given'
    pub outcome : Entered s.head given matrix row wire x r t.head given'
    pub values : t.values ≡ s.values

  pub record Assigns (values wire : ℕ) (x : F) (r : Answer) : Type 0 where
    pub given : List F
    pub given' : List F
    pub handed : Handed s.head.wires values s.values t.values given given'
    pub outcome : Assigned s.head given wire x r given'
    pub head : t.head ≡ s.head
    pub entries : t.entries ≡ s.entries

  pub record Extends (entries values out : ℕ) (r : Answer) : Type 0 where
    pub given_entries : List (Entry F)
    pub given_values : List F
    pub given_out : List F
    pub given_out' : List F
    pub handed_entries : Handed table_size entries s.entries t.entries given_entries given_entries
    pub handed_values : Handed s.head.wires values s.values t.values given_values given_values
    pub lent : Lent s.head.columns out given_out
    pub outcome : Extended O s.head given_entries given_values given_out r given_out'
    pub head : t.head ≡ s.head

  pub record Divides (entries values out work : ℕ) (r : Answer) : Type 0 where
    pub given_entries : List (Entry F)
    pub given_values : List F
    pub given_out : List F
    pub given_out' : List F
    pub given_work : List F
    pub handed_entries : Handed table_size entries s.entries t.entries given_entries given_entries
    pub handed_values : Handed s.head.wires values s.values t.values given_values given_values
    pub lent : Lent (s.head.n - 1) out given_out
    pub lent_work : Lent (s.head.columns + 4 * s.head.n) work given_work
    pub outcome : Divided O s.head given_entries given_values given_out (length given_work) r given_out'
    pub head : t.head ≡ s.head

  pub record Publishes (values out : ℕ) (r : Answer) : Type 0 where
    pub given_values : List F
    pub given_out : List F
    pub given_out' : List F
    pub handed_values : Handed s.head.wires values s.values t.values given_values given_values
    pub lent : Lent s.head.n out given_out
    pub outcome : Published O s.head given_values given_out r given_out'
    pub head : t.head ≡ s.head
    pub entries : t.entries ≡ s.entries

module _ {F : Type 0} (O : Operations F) where
  -- one call, its answer, and the sheet before and after
  abbrev pub Step : Sheet F → Call F → Answer → Sheet F → Type 0
  Step s (Enter entries matrix row wire x) r t = Enters O s t entries matrix row wire x r
  Step s (Assign values wire x) r t = Assigns O s t values wire x r
  Step s (Extend entries values out) r t = Extends O s t entries values out r
  Step s (Quotient entries values out work) r t = Divides O s t entries values out work r
  Step s (Public values out) r t = Publishes O s t values out r

  -- the calls of a list, one after another, with their answers
  abbrev pub Run : Sheet F → List (Call F) → List Answer → Sheet F → Type 0
  Run s [] [] t = Same O s t
  Run s [] (r ∷ rs) t = ⊥
  Run s (c ∷ cs) [] t = ⊥
  Run s (c ∷ cs) (r ∷ rs) t = (u : Sheet F) × Step s c r u × Run u cs rs t

-- the answer is what is owed
abbrev pub Told : Due → Answer → Type 0
Told due r = Decided due r (λ _. Unit {0}) (Unit {0})

module _ {F : Type 0} (O : Operations F) where
  -- what a listed call owes by the model, at the listed lengths: a wrong length is refused with 5, and an enter or assign that is granted
  -- is one that the model takes
  abbrev pub owed : Model F → Call F → Due
  owed b (Enter entries matrix row wire x) = enter_due b.shape (length b.entries) entries matrix row wire
  owed b (Assign values wire x) = assign_due b.shape values wire
  owed b (Extend entries values out) = extend_due O b.shape entries values out b.entries b.values
  owed b (Quotient entries values out work) = quotient_due O b.shape entries values out work b.entries b.values
  owed b (Public values out) = public_due O b.shape values out b.values

  -- each call of a list is answered as the model of the calls before it owes
  abbrev pub AllAsOwed : Model F → List (Call F) → List Answer → Type 0
  AllAsOwed b [] rs = Unit {0}
  AllAsOwed b (c ∷ cs) [] = ⊥
  AllAsOwed b (c ∷ cs) (r ∷ rs) = Told (owed b c) r × AllAsOwed (after b c) cs rs

-- Whatever list of calls is run on a sheet that stands for a model, the sheet then stands for the model of that list,
-- and each call was answered as the model owed.
abbrev pub RunsStand : {F : Type 0} → Operations F → Type 0
RunsStand {F} O = (s t : Sheet F) (calls : List (Call F)) (answers : List Answer) (b : Model F)
    → Run O s calls answers t → Stands O s b
    → Stands O t (after_all b calls) × AllAsOwed O b calls answers
