-- A run that goes on by one call, as the loop over a list makes it.
use Rattle.std.proofs.Common.{◌≡◌, ℕ, ◌+◌, ◌<◌, ◌≤◌, List, [], ◌∷◌, ◌++◌, length, get_or, take, drop, set, Ok, Err, sym, refl, ap, ◌∙◌, subst, append_assoc, arith}
use Rattle.std.proofs.lemmas.List.{take_more_set, drop_more, drop_all, take_all, append-nil}
use Rattle.field.specs.Operations.{Operations}
use Rattle.sheet.specs.Shape.{n, columns}
use Rattle.sheet.specs.Outcomes.{Answer, Numbers, shape_of}
use Rattle.sheet.specs.Model.{Sheet}
use Rattle.sheet.specs.declared.head.Head.{Head}
use Rattle.sheet.specs.declared.call.Call.{Call}
use Rattle.sheet.specs.declared.call.Call.TheVariants.{Enter, Assign, Extend, Quotient, Public}
use Rattle.square.proofs.Heads.{shape_same, n_same, columns_same}
use Rattle.runs.specs.Runs.{Step, Run}

pub below_same : (i a b c : ℕ) → i < a → c ≡ b → b ≡ a → i < c
below_same i a b c h p q = omega arith

pub at_end : (a i : ℕ) → a ≤ i → i ≤ a → a ≡ i
at_end a i h k = omega arith

-- a head as large as another: as many wires and columns, and the same n
pub record AsLarge (h h' : Head) : Type 0 where
  pub wires : h'.wires ≡ h.wires
  pub columns : h'.columns ≡ h.columns
  pub n : h'.n ≡ h.n

numbers_large : (h h' : Head) (used : ℕ) → Numbers h' (shape_of h) used → AsLarge h h'
numbers_large h h' used numbers =
    let same = shape_same h' (shape_of h) used numbers in
    record {
      wires = numbers.wires;
      columns = columns_same h' ∙ ap columns same ∙ sym (columns_same h);
      n = n_same h' ∙ ap n same ∙ sym (n_same h);
    }

same_large : (h h' : Head) → h' ≡ h → AsLarge h h'
same_large h h' e = record { wires = ap (λ x. x.wires) e; columns = ap (λ x. x.columns) e; n = ap (λ x. x.n) e }

pub large_again : (a b c : Head) → AsLarge a b → AsLarge b c → AsLarge a c
large_again a b c p q = record { wires = q.wires ∙ p.wires; columns = q.columns ∙ p.columns; n = q.n ∙ p.n }

module _ {F : Type 0} (O : Operations F) where
  -- a call leaves the shape
  pub step_large : (s : Sheet F) (c : Call F) (r : Answer) (t : Sheet F) → Step O s c r t → AsLarge s.head t.head
  step_large s (Enter listed matrix row wire x) (Ok _) t e = numbers_large s.head t.head _ e.outcome.1.0
  step_large s (Enter listed matrix row wire x) (Err _) t e = same_large s.head t.head e.outcome.1.0
  step_large s (Assign listed wire x) r t e = same_large s.head t.head e.head
  step_large s (Extend entries values out) r t e = same_large s.head t.head e.head
  step_large s (Quotient entries values out work) r t e = same_large s.head t.head e.head
  step_large s (Public values out) r t e = same_large s.head t.head e.head

  -- one call more, answered at its place
  pub run_next : (start : Sheet F) (calls : List (Call F)) (answers : List Answer) (i : ℕ) (s : Sheet F) (c : Call F) (r : Answer) (u : Sheet F)
      → i < length calls → i < length answers → c ≡ get_or calls i c → Step O s c r u
      → ((t : Sheet F) (rest : List Answer) → Run O s (drop i calls) rest t → Run O start calls (take i answers ++ rest) t)
      → (t : Sheet F) (rest : List Answer) → Run O u (drop (i + 1) calls) rest t → Run O start calls (take (i + 1) (set answers i r) ++ rest) t
  run_next start calls answers i s c r u within room read step before t rest after =
      let split : drop i calls ≡ c ∷ drop (i + 1) calls = drop_more calls i c within ∙ ap (λ y. y ∷ drop (i + 1) calls) (sym read) in
      let here : Run O s (drop i calls) (r ∷ rest) t = subst (λ (cs : List (Call F)). Run O s cs (r ∷ rest) t) (sym split) (u, step, after) in
      let told : take i answers ++ (r ∷ rest) ≡ take (i + 1) (set answers i r) ++ rest =
      sym (ap (λ rs. rs ++ rest) (take_more_set answers i r room) ∙ append_assoc (take i answers) (r ∷ []) rest) in
      subst (λ (rs : List Answer). Run O start calls rs t) told (before t (r ∷ rest) here)

  -- no call is left
  pub run_all : (start : Sheet F) (calls : List (Call F)) (answers : List Answer) (i : ℕ) (s : Sheet F) → length calls ≡ i → length answers ≡ i
      → ((t : Sheet F) (rest : List Answer) → Run O s (drop i calls) rest t → Run O start calls (take i answers ++ rest) t)
      → Run O start calls answers s
  run_all start calls answers i s e f before =
      let none : drop i calls ≡ [] = drop_all i calls (omega arith) in
      let here : Run O s (drop i calls) [] s = subst (λ (cs : List (Call F)). Run O s cs [] s) (sym none) (record { head = refl; entries = refl; values = refl }) in
      let told : take i answers ++ [] ≡ answers = append-nil (take i answers) ∙ take_all i answers (omega arith) in
      subst (λ (rs : List Answer). Run O start calls rs s) told (before s [] here)
