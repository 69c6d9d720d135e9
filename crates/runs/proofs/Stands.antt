-- Any run of calls keeps the sheet standing for the model, and enter and assign are answered as the model owes.
use Rattle.std.proofs.Common.{◌≡◌, ℕ, ◌+◌, ◌-◌, ◌*◌, ◌<◌, Bool, true, false, ◌&&◌, eqb, ltb, leb, List, [], ◌∷◌, ◌++◌, length, take, set, None, Ok, Err, sym, refl, ap, ◌∙◌, subst, ap₂, arith, length-set, eq-eqb}
use native.Mathlib.Decide.{ℕ_discrete}
use Rattle.std.proofs.lemmas.List.{take_more_set, length_push}
use Rattle.std.proofs.lemmas.Bool.{and_parts, eqb-true, ne_eqb}
use Rattle.refusal.specs.Due.{Due, Decided, unless, unless_at}
use Rattle.field.specs.Operations.{Operations}
use Rattle.transform.specs.Polynomial.{coefficient}
use Rattle.sheet.specs.Shape.{Shape, log_of_n, n, columns}
use Rattle.sheet.specs.Rules.{table_size, inside, enter_due, assign_due}
use Rattle.sheet.specs.Outcomes.{Answer, Numbers, shape_of, entry}
use Rattle.sheet.specs.Model.{Model, Sheet, Stands, with_entry, with_value, after, after_all}
use Rattle.sheet.specs.declared.entry.Entry.{Entry}
use Rattle.sheet.specs.declared.call.Call.{Call}
use Rattle.sheet.specs.declared.call.Call.TheVariants.{Enter, Assign, Extend, Quotient, Public}
use Rattle.square.proofs.Heads.{shape_same, n_same, columns_same}
use Rattle.square.specs.Rows.{position, failing_row}
use Rattle.square.specs.Rules.{all_inside, starts_with_one, extend_due, quotient_due, public_due}
use Rattle.runs.specs.Runs.{Handed, Lent, Same, Enters, Assigns, Extends, Divides, Publishes, Step, Run, Told, owed, AllAsOwed}

-- what passes a line of the table of refusals
pub line_passed : (test : Bool) (number : ℕ) (below : Due) → unless test number below ≡ None → (test ≡ true) × (below ≡ None)
line_passed true number below h = (refl, h)
line_passed false number below h = let z : ◌≡◌ {A = ℕ} 0 1 = cc in absurd (omega arith)

-- ── What a listed call is handed ──

module _ {X : Type 0} {stated listed : ℕ} {own own' given given' : List X} (h : Handed stated listed own own' given given') where
  -- the test of its length has the listed length's answer
  pub handed_test : length own ≡ stated → eqb (length given) stated ≡ eqb listed stated
  handed_test e =
      elim (ℕ_discrete listed stated) [
        | yes r ↦ eq-eqb (length given) stated (ap length (h.right r).0 ∙ e) ∙ sym (eq-eqb listed stated r)
        | no w ↦ ne_eqb (length given) stated (h.wrong w).0 ∙ sym (ne_eqb listed stated w)
      ]

  -- left as it was, it leaves the sheet's own as it was
  pub handed_same : given' ≡ given → own' ≡ own
  handed_same e = elim (ℕ_discrete listed stated) [ yes r ↦ (h.right r).1 ∙ e ∙ (h.right r).0 | no w ↦ (h.wrong w).1 ]

-- a lent buffer's test too
pub lent_test : {X : Type 0} (stated listed : ℕ) (out : List X) → Lent stated listed out → eqb (length out) stated ≡ eqb listed stated
lent_test stated listed out l =
    elim (ℕ_discrete listed stated) [
      | yes r ↦ eq-eqb (length out) stated (l.0 r) ∙ sym (eq-eqb listed stated r)
      | no w ↦ ne_eqb (length out) stated (λ e. w (l.1 e)) ∙ sym (ne_eqb listed stated w)
    ]

-- lines with one test agree where what stands below them agrees
same_line : (t t' : Bool) (number : ℕ) (below below' : Due) → t ≡ t' → (t' ≡ true → below ≡ below') → unless t number below ≡ unless t' number below'
same_line t true number below below' e h = ap (λ x. unless x number below) e ∙ h refl
same_line t false number below below' e h = ap (λ x. unless x number below) e

told_as : (due due' : Due) (r : Answer) (P : Unit {0} → Type 0) (Q : Type 0) → due ≡ due' → Decided due r P Q → Told due' r
told_as due due' (Ok _) P Q e d = (sym e ∙ d.0, tt)
told_as due due' (Err x) P Q e d = (sym e ∙ d.0, tt)

-- ── One call ──

module _ {F : Type 0} (O : Operations F) (s t : Sheet F) (b : Model F) (st : Stands O s b) where
  shape_is : shape_of s.head ≡ b.shape
  shape_is = shape_same s.head b.shape _ st.numbers

  same_stands : Same O s t → Stands O t b
  same_stands q = rw (q.head, q.entries, q.values) st

  -- enter
  module _ (listed matrix row wire : ℕ) (x : F) where
    abbrev due : Due
    due = enter_due b.shape (length b.entries) listed matrix row wire

    enter_same : (given given' : List (Entry F)) → Handed table_size listed s.entries t.entries given given'
        → enter_due (shape_of s.head) s.head.used (length given) matrix row wire ≡ due
    enter_same given given' h =
        ap (λ (S : Shape). enter_due S s.head.used (length given) matrix row wire) shape_is
        ∙ ap (λ (u : ℕ). enter_due b.shape u (length given) matrix row wire) st.numbers.count
        ∙ ap (λ (p : Bool). unless p 5 (unless (inside b.shape matrix row wire) 3 (unless (ltb (length b.entries) table_size) 4 None))) (handed_test h st.table)

    entered : Numbers t.head (shape_of s.head) (s.head.used + 1) → t.entries ≡ set s.entries s.head.used (entry matrix row wire x) → t.values ≡ s.values
        → Stands O t (with_entry None (entry matrix row wire x) b)
    entered n q v =
        let e = entry matrix row wire x in
        let room : s.head.used < length s.entries = omega (arith, t.head.used_most, n.count, st.table) in
        record {
          numbers = record {
            wires = n.wires ∙ st.numbers.wires;
            publics = n.publics ∙ st.numbers.publics;
            rows = n.rows ∙ st.numbers.rows;
            count = n.count ∙ ap (λ k. k + 1) st.numbers.count ∙ sym (length_push b.entries e);
          };
          table = ap length q ∙ length-set s.entries s.head.used e ∙ st.table;
          used = rw (n.count, q) (take_more_set s.entries s.head.used e room ∙ ap (λ l. l ++ e ∷ []) st.used);
          places = ap length v ∙ st.places;
          values = v ∙ st.values;
          root = st.root;
        }

    enters : (r : Answer) → Enters O s t listed matrix row wire x r → Stands O t (with_entry due (entry matrix row wire x) b) × Told due r
    enters (Ok _) e =
        let none = sym (enter_same e.given e.given' e.handed) ∙ e.outcome.0 in
        let right : listed ≡ table_size = eqb-true listed table_size (line_passed (eqb listed table_size) 5 _ none).0 in
        let own = e.handed.right right in
        let written = own.1 ∙ e.outcome.1.1 ∙ ap (λ l. set l s.head.used (entry matrix row wire x)) own.0 in
        (rw none (entered e.outcome.1.0 written e.values), (none, tt))
    enters (Err d) e =
        let some = sym (enter_same e.given e.given' e.handed) ∙ e.outcome.0 in (
          rw some (same_stands (record { head = e.outcome.1.0; entries = handed_same e.handed e.outcome.1.1; values = e.values })),
          (some, tt),
        )

  -- assign
  module _ (listed wire : ℕ) (x : F) where
    abbrev due_assign : Due
    due_assign = assign_due b.shape listed wire

    assign_same : (given given' : List F) → Handed s.head.wires listed s.values t.values given given'
        → assign_due (shape_of s.head) (length given) wire ≡ due_assign
    assign_same given given' h =
        let test = handed_test h (st.places ∙ sym st.numbers.wires) in
        ap (λ (p : Bool). unless p 5 (unless (leb 1 wire && ltb wire s.head.wires) 3 None)) test
        ∙ ap (λ (S : Shape). assign_due S listed wire) shape_is

    assigned : t.head ≡ s.head → t.entries ≡ s.entries → t.values ≡ set s.values wire x → Stands O t (with_value None wire x b)
    assigned p q v =
        record {
          numbers = rw p (record { wires = st.numbers.wires; publics = st.numbers.publics; rows = st.numbers.rows; count = st.numbers.count });
          table = ap length q ∙ st.table;
          used = rw (p, q) st.used;
          places = ap length v ∙ length-set s.values wire x ∙ st.places;
          values = v ∙ ap (λ l. set l wire x) st.values;
          root = st.root;
        }

    assigns : (r : Answer) → Assigns O s t listed wire x r → Stands O t (with_value due_assign wire x b) × Told due_assign r
    assigns (Ok _) e =
        let none = sym (assign_same e.given e.given' e.handed) ∙ e.outcome.0 in
        let right : listed ≡ s.head.wires = eqb-true listed b.shape.m (line_passed (eqb listed b.shape.m) 5 _ none).0 ∙ sym st.numbers.wires in
        let own = e.handed.right right in
        let written = own.1 ∙ e.outcome.1 ∙ ap (λ l. set l wire x) own.0 in
        (rw none (assigned e.head e.entries written), (none, tt))
    assigns (Err d) e =
        let some = sym (assign_same e.given e.given' e.handed) ∙ e.outcome.0 in (
          rw some (same_stands (record { head = e.head; entries = e.entries; values = handed_same e.handed e.outcome.1 })),
          (some, tt),
        )

  -- the calls that only read: right lengths mean the sheet's own tables
  abbrev S : Shape
  S = shape_of s.head

  own_entries : (listed : ℕ) (given : List (Entry F)) → Handed table_size listed s.entries t.entries given given → eqb listed table_size ≡ true
      → take s.head.used given ≡ b.entries
  own_entries listed given h e = ap (take s.head.used) (h.right (eqb-true listed table_size e)).0 ∙ st.used

  own_values : (listed : ℕ) (given : List F) → Handed s.head.wires listed s.values t.values given given → eqb listed s.head.wires ≡ true → given ≡ b.values
  own_values listed given h e = (h.right (eqb-true listed s.head.wires e)).0 ∙ st.values

  values_test : (listed : ℕ) (given : List F) → Handed s.head.wires listed s.values t.values given given → eqb (length given) s.head.wires ≡ eqb listed s.head.wires
  values_test listed given h = handed_test h (st.places ∙ sym st.numbers.wires)

  reads_same : (es : List (Entry F)) (vs : List F) (listed_entries listed_values : ℕ)
      → Handed table_size listed_entries s.entries t.entries es es → Handed s.head.wires listed_values s.values t.values vs vs → t.head ≡ s.head → Stands O t b
  reads_same es vs _ _ he hv h = same_stands (record { head = h; entries = handed_same he refl; values = handed_same hv refl })

  extends : (entries values out : ℕ) (r : Answer) → Extends O s t entries values out r → Stands O t b × Told (owed O b (Extend entries values out)) r
  extends entries values out r e = (
    reads_same e.given_entries e.given_values entries values e.handed_entries e.handed_values e.head,
    told_as _ _ r _ _
        (same_line _ (eqb entries table_size && (eqb values S.m && eqb out (columns S))) 5 _ _
        (ap₂ ◌&&◌ (handed_test e.handed_entries st.table) (ap₂ ◌&&◌ (values_test values e.given_values e.handed_values) room))
        below
        ∙ ap (λ (X : Shape). extend_due O X entries values out b.entries b.values) shape_is)
        e.outcome,
  )
    where
      room : eqb (length e.given_out) (columns S) ≡ eqb out (columns S)
      room = subst (λ (n : ℕ). eqb (length e.given_out) n ≡ eqb out n) (columns_same s.head) (lent_test s.head.columns out e.given_out e.lent)

      below : (eqb entries table_size && (eqb values S.m && eqb out (columns S))) ≡ true
          → unless (starts_with_one O S e.given_values && all_inside S (take s.head.used e.given_entries)) 6 None
          ≡ unless (starts_with_one O S b.values && all_inside S b.entries) 6 None
      below h =
          let p = and_parts (eqb entries table_size) _ h in
          let q = and_parts (eqb values S.m) _ p.1 in
          ap₂ (λ vs us. unless (starts_with_one O S vs && all_inside S us) 6 None)
          (own_values values e.given_values e.handed_values q.0)
          (own_entries entries e.given_entries e.handed_entries p.0)

  divides : (entries values out work : ℕ) (r : Answer) → Divides O s t entries values out work r → Stands O t b × Told (owed O b (Quotient entries values out work)) r
  divides entries values out work r e = (
    reads_same e.given_entries e.given_values entries values e.handed_entries e.handed_values e.head,
    told_as _ _ r _ _
        (ap (unless (leb (log_of_n S) O.adicity) 2)
        (same_line _ (eqb entries table_size && (eqb values S.m && (eqb out (n S - 1) && eqb work (columns S + 4 * n S)))) 5 _ _
        (ap₂ ◌&&◌ (handed_test e.handed_entries st.table) (ap₂ ◌&&◌ (values_test values e.given_values e.handed_values) (ap₂ ◌&&◌ room more)))
        below)
        ∙ ap (λ (X : Shape). quotient_due O X entries values out work b.entries b.values) shape_is)
        e.outcome,
  )
    where
      room : eqb (length e.given_out) (n S - 1) ≡ eqb out (n S - 1)
      room = subst (λ (m : ℕ). eqb (length e.given_out) (m - 1) ≡ eqb out (m - 1)) (n_same s.head) (lent_test (s.head.n - 1) out e.given_out e.lent)

      size : s.head.columns + 4 * s.head.n ≡ columns S + 4 * n S
      size = ap₂ (λ (x y : ℕ). x + 4 * y) (columns_same s.head) (n_same s.head)

      more : eqb (length e.given_work) (columns S + 4 * n S) ≡ eqb work (columns S + 4 * n S)
      more = subst (λ (m : ℕ). eqb (length e.given_work) m ≡ eqb work m) size (lent_test (s.head.columns + 4 * s.head.n) work e.given_work e.lent_work)

      below : (eqb entries table_size && (eqb values S.m && (eqb out (n S - 1) && eqb work (columns S + 4 * n S)))) ≡ true
          → unless (starts_with_one O S e.given_values && all_inside S (take s.head.used e.given_entries)) 6
          (unless_at (failing_row O S (position O (take s.head.used e.given_entries)) (coefficient O e.given_values)) 7 None)
          ≡ unless (starts_with_one O S b.values && all_inside S b.entries) 6
          (unless_at (failing_row O S (position O b.entries) (coefficient O b.values)) 7 None)
      below h =
          let p = and_parts (eqb entries table_size) _ h in
          let q = and_parts (eqb values S.m) _ p.1 in
          ap₂ (λ vs us. unless (starts_with_one O S vs && all_inside S us) 6 (unless_at (failing_row O S (position O us) (coefficient O vs)) 7 None))
          (own_values values e.given_values e.handed_values q.0)
          (own_entries entries e.given_entries e.handed_entries p.0)

  publishes : (values out : ℕ) (r : Answer) → Publishes O s t values out r → Stands O t b × Told (owed O b (Public values out)) r
  publishes values out r e = (
    same_stands (record { head = e.head; entries = e.entries; values = handed_same e.handed_values refl }),
    told_as _ _ r _ _
        (ap (unless (leb (log_of_n S) O.adicity) 2)
        (same_line _ (eqb values S.m && eqb out (n S)) 5 _ _
        (ap₂ ◌&&◌ (values_test values e.given_values e.handed_values) room)
        (λ h. ap (λ vs. unless (starts_with_one O S vs) 6 None) (own_values values e.given_values e.handed_values (and_parts (eqb values S.m) _ h).0)))
        ∙ ap (λ (X : Shape). public_due O X values out b.values) shape_is)
        e.outcome,
  )
    where
      room : eqb (length e.given_out) (n S) ≡ eqb out (n S)
      room = subst (λ (m : ℕ). eqb (length e.given_out) m ≡ eqb out m) (n_same s.head) (lent_test s.head.n out e.given_out e.lent)

  pub step_stands : (c : Call F) (r : Answer) → Step O s c r t → Stands O t (after b c) × Told (owed O b c) r
  step_stands (Enter listed matrix row wire x) r e = enters listed matrix row wire x r e
  step_stands (Assign listed wire x) r e = assigns listed wire x r e
  step_stands (Extend entries values out) r e = extends entries values out r e
  step_stands (Quotient entries values out work) r e = divides entries values out work r e
  step_stands (Public values out) r e = publishes values out r e

-- ── A list of calls ──

module _ {F : Type 0} (O : Operations F) where
  pub run_stands : (cs : List (Call F)) (rs : List Answer) (s t : Sheet F) (b : Model F) → Run O s cs rs t → Stands O s b
      → Stands O t (after_all b cs) × AllAsOwed O b cs rs
  run_stands [] [] s t b d st = (same_stands O s t b st d, tt)
  run_stands [] (r ∷ rs) s t b d st = absurd d
  run_stands (c ∷ cs) [] s t b d st = absurd d
  run_stands (c ∷ cs) (r ∷ rs) s t b d st =
      let here = step_stands O s d.0 b st c r d.1 in
      let rest = run_stands cs rs d.0 t (after b c) d.2 here.0 in
      (rest.0, (here.1, rest.1))
