-- The model of two files: one stands on wire 0, each entry lies within the sheet, and tables of the largest lengths serve every circuit.
use Rattle.std.proofs.Common.{◌≡◌, ℕ, ◌≤◌, Bool, true, false, ◌&&◌, eqb, leb, List, [], ◌∷◌, map, length, get_or, refl, ap, ◌∙◌, not-suc-le-zero, arith}
use Rattle.std.specs.List.{AllByRecursion}
use Rattle.std.proofs.lemmas.Bool.{and_parts, and_from, leb-true, eq-eqb}
use Rattle.refusal.specs.Due.{Due, unless}
use Rattle.field.specs.Operations.{Operations, sum, ones}
use Rattle.field.specs.Laws.{Laws}
use Rattle.field.proofs.Ring.{zero_add}
use Rattle.transform.specs.Polynomial.{coefficient}
use Rattle.frames.specs.Faults.{check, then}
use Rattle.sheet.specs.Shape.{Shape, log_of_n}
use Rattle.sheet.specs.Rules.{table_size, in_limits, inside}
use Rattle.sheet.specs.declared.entry.Entry.{Entry}
use Rattle.square.specs.Rules.{all_inside}
use Rattle.constraints.specs.Circuit.{Circuit, Proper}
use Rattle.assignments.specs.Assignment.{Encodes}
use Rattle.loading.specs.Entries.{entries_from}
use Rattle.loading.specs.Loaded.{circuit_shape, circuit_due}
use Rattle.loading.proofs.Modelled.{entries_inside}
use Rattle.solving.specs.Taken.{sheet_due}

-- ── Values ──

module _ {F : Type 0} {O : Operations F} (L : Laws O) where
  one_once : ones O 1 ≡ O.one
  one_once = unfold ones sum in zero_add L.ring O.one

  first_one : (vs : List ℕ) → 1 ≤ length vs → get_or vs 0 0 ≡ 1 → coefficient O (map (ones O) vs) 0 ≡ O.one
  first_one [] some first = absurd (not-suc-le-zero some)
  first_one (v ∷ vs) some first = ap (ones O) first ∙ one_once

  pub files_one : (ws : List ℕ) (p m : ℕ) (vs : List ℕ) → Encodes ws p m vs → coefficient O (map (ones O) vs) 0 ≡ O.one
  files_one ws p m vs e = first_one vs (omega (arith, e.some, e.count)) e.first

-- ── Entries ──

all_within : {F : Type 0} (S : Shape) (es : List (Entry F)) → AllByRecursion (λ e. inside S e.matrix e.row e.wire ≡ true) es → all_inside S es ≡ true
all_within S [] a = refl
all_within S (e ∷ es) a = and_from _ _ a.0 (all_within S es a.1)

pub files_within : {F : Type 0} (O : Operations F) (c : Circuit) → Proper c → all_inside (circuit_shape c) (entries_from O 0 c.rows) ≡ true
files_within O c proper =
    all_within (circuit_shape c) (entries_from O 0 c.rows) (entries_inside O (circuit_shape c) c.wires c.prime refl 0 c.rows (omega arith) proper.rows)

-- ── Lengths ──

-- the lines of what is owed, where the prime is the field's and the tables fit a sheet within its limits
same_lines : (at : ℕ) (prime limits root fit : Bool) (below rest rest' : Due) → prime ≡ true → (limits ≡ true → (fit ≡ true) × (rest ≡ rest'))
    → then (check prime 9 at (unless limits 1 (unless root 2 (unless fit 5 below)))) rest ≡ then (unless limits 1 (unless root 2 below)) rest'
same_lines at true false root fit below rest rest' e h = refl
same_lines at true true root true below rest rest' e h = ap (then (unless root 2 below)) (h refl).1
same_lines at true true root false below rest rest' e h = let f = (h refl).0 in let z : ◌≡◌ {A = ℕ} 0 1 = cc in absurd (omega arith)
same_lines at false limits root fit below rest rest' e h = let z : ◌≡◌ {A = ℕ} 0 1 = cc in absurd (omega arith)

-- With an entry table of its length, and a value table as long as the circuit asks unless no sheet has so many wires, what is owed is what
-- the circuit owes and then the rest.
module _ {F : Type 0} (O : Operations F) (p place : ℕ) (c : Circuit) (entries places : ℕ) (rest : ℕ → Due) where
  pub owed_by_files : c.prime ≡ p → entries ≡ table_size → (c.wires ≤ 2048 → places ≡ c.wires)
      → then (circuit_due O p place c entries places) (rest places) ≡ then (sheet_due O c) (rest c.wires)
  owed_by_files prime table fits =
      let S = circuit_shape c in
      same_lines place (eqb c.prime p) (in_limits S) (leb (log_of_n S) O.adicity) (eqb places c.wires && eqb entries table_size) _ _ _ (eq-eqb _ _ prime)
      (λ limits.
      let few : c.wires ≤ 2048 = leb-true c.wires 2048 (and_parts (leb 1 c.wires) _ (and_parts (leb 1 c.wires && leb c.wires 2048) _ limits).0).1 in
      (and_from _ _ (eq-eqb _ _ (fits few)) (eq-eqb _ _ table), ap rest (fits few)))
