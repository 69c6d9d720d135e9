-- What load does with a circuit follows from what it does with any reader.
use Rattle.std.proofs.Common.{◌≡◌, ℕ, ◌+◌, ◌≤◌, leb, List, map, length, None, Result, sym, refl, ap, ◌∙◌, subst, arith}
use Rattle.std.proofs.lemmas.Result.{MatchResult-weaker}
use Rattle.std.proofs.lemmas.Bool.{leb-true}
use Rattle.refusal.specs.Due.{unless}
use Rattle.refusal.specs.declared.refused.Refused.{Refused}
use Rattle.field.specs.Operations.{Operations}
use Rattle.sheet.specs.Shape.{Shape}
use Rattle.sheet.specs.Rules.{table_size}
use Rattle.sheet.specs.Model.{Model, sheet, Stands, fresh, after_all}
use Rattle.sheet.specs.declared.head.Head.{Head}
use Rattle.sheet.specs.declared.entry.Entry.{Entry}
use Rattle.runs.proofs.Stands.{line_passed}
use Rattle.constraints.specs.declared.reader.RowReader.{RowReader}
use Rattle.constraints.specs.Circuit.{Line, Circuit, Proper}
use Rattle.constraints.specs.Reader.{again, Starts}
use Rattle.loading.specs.Rows.{rows_of, item_count}
use Rattle.loading.specs.Entries.{entries_from, enters, enter_call}
use Rattle.loading.specs.Loaded.{file_shape, circuit_shape, load_due, reader_due, circuit_due, loaded_model, Filled, Loaded, LoadsCircuit}
use Rattle.loading.proofs.Owed.{due_prime, due_rest}
use Rattle.loading.proofs.Written.{rows_written}
use Rattle.loading.proofs.Modelled.{all_taken, entries_count, entries_inside, lines_below}

module _ {F : Type 0} (O : Operations F) where
  -- the model takes every item of a circuit that has few enough
  circuit_model : (p : ℕ) (c : Circuit) → Proper c → c.prime ≡ p → item_count c.rows ≤ table_size → after_all (fresh O (circuit_shape c)) (enters O p c.rows) ≡ loaded_model O c
  circuit_model p c proper e few =
      let S = circuit_shape c in
      let ns = entries_from O 0 c.rows in
      let count = entries_count O 0 c.rows in
      ap (λ (q : ℕ). after_all (fresh O S) (enters O q c.rows)) (sym e)
      ∙ ap (λ (ls : List Line). after_all (fresh O S) (map enter_call (entries_from O 0 ls))) (lines_below c.wires c.prime c.rows proper.rows)
      ∙ all_taken O ns (fresh O S) (entries_inside O S c.wires c.prime refl 0 c.rows (omega arith) proper.rows) (omega (arith, few, count))

  module _ (p : ℕ) (s : RowReader) (c : Circuit) (start : Starts (again s) c) (proper : Proper c) where
    rows_are : rows_of s ≡ c.rows
    rows_are = rows_written c.wires c.prime proper.wires proper.prime (again s) c.rows proper.rows start.ahead

    shape_is : file_shape s.header ≡ circuit_shape c
    shape_is =
        let public : 1 + s.header.outputs + s.header.inputs ≡ 1 + c.outputs + c.inputs = omega (arith, start.outputs, start.inputs) in
        λ i. record { m = start.wires i; l = public i; N = start.rows i }

    due_is : (entries values : ℕ) → reader_due O p s entries values ≡ circuit_due O p s.prime_at c entries values
    due_is entries values =
        ap (λ (q : ℕ). load_due O p q s.prime_at (file_shape s.header) (item_count (rows_of s)) entries values) start.prime
        ∙ ap (λ (S : Shape). load_due O p c.prime s.prime_at S (item_count (rows_of s)) entries values) shape_is
        ∙ ap (λ (ls : List Line). load_due O p c.prime s.prime_at (circuit_shape c) (item_count ls) entries values) rows_are

    filled_circuit : (es : List (Entry F)) (vs : List F) (h : Head) (es' : List (Entry F)) (vs' : List F)
        → circuit_due O p s.prime_at c (length es) (length vs) ≡ None → Filled O p s es vs h es' vs' → Stands O (sheet h es' vs') (loaded_model O c)
    filled_circuit es vs h es' vs' due f =
        let prime = due_prime O p c.prime s.prime_at (circuit_shape c) (length es) (length vs) _ due in
        let items = (due_rest O p c.prime s.prime_at (circuit_shape c) (length es) (length vs) (unless (leb (item_count c.rows) table_size) 4 None) due).1 in
        let few = leb-true (item_count c.rows) table_size (line_passed (leb (item_count c.rows) table_size) 4 None items).0 in
        let model : after_all (fresh O (file_shape s.header)) (enters O p (rows_of s)) ≡ loaded_model O c =
        ap (λ (S : Shape). after_all (fresh O S) (enters O p (rows_of s))) shape_is
        ∙ ap (λ (ls : List Line). after_all (fresh O (circuit_shape c)) (enters O p ls)) rows_are
        ∙ circuit_model p c proper prime few in
        subst (λ (b : Model F). Stands O (sheet h es' vs') b) model f.stands

  pub loads : (p : ℕ) (s : RowReader) (es : List (Entry F)) (vs : List F) (r : Result Head Refused) (es' : List (Entry F)) (vs' : List F)
      → Loaded O p s es vs r es' vs' → LoadsCircuit O p s es vs r es' vs'
  loads p s es vs r es' vs' d c start proper =
      let due = sym (due_is p s c start proper (length es) (length vs)) in
      MatchResult-weaker r d
      (λ h x. (due ∙ x.0, filled_circuit p s c start proper es vs h es' vs' (due ∙ x.0) x.1))
      (λ e x. (due ∙ x.0, x.1))
