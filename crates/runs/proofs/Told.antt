-- What survey tells: a made sheet stands for the fresh model, and after the run the law holds of what the three calls write.
use Rattle.std.proofs.Common.{◌≡◌, ℕ, suc, ◌+◌, ◌-◌, ◌*◌, ◌≤◌, Bool, true, false, ◌&&◌, eqb, leb, List, length, take, Some, None, sym, refl, ap, ◌∙◌, arith}
use lib.ListN.{length-replicate}
use Rattle.std.proofs.lemmas.Bool.{and_parts, eqb-true, leb-true}
use Rattle.refusal.specs.Due.{Due, unless}
use Rattle.field.specs.Operations.{Operations}
use Rattle.sheet.specs.Shape.{Shape, log_of_n, n, columns}
use Rattle.sheet.specs.Rules.{table_size, in_limits, planned, make_due}
use Rattle.sheet.specs.Outcomes.{Numbers, shape_of, first_values}
use Rattle.sheet.specs.Model.{sheet, Stands, fresh}
use Rattle.sheet.specs.declared.head.Head.{Head}
use Rattle.sheet.specs.declared.entry.Entry.{Entry}
use Rattle.sheet.specs.declared.call.Call.{Call}
use Rattle.square.proofs.Heads.{shape_same}
use Rattle.runs.specs.Survey.{Lengths, buffers_fit, survey_due}
use Rattle.runs.proofs.Stands.{line_passed}

-- ── The lengths ──

pub record Fit (S : Shape) (calls : ℕ) (x : Lengths) : Type 0 where
  pub answers : x.answers ≡ calls
  pub entries : x.entries ≡ table_size
  pub extended : x.extended ≡ columns S
  pub quotient : x.quotient ≡ n S - 1
  pub public : x.public ≡ n S
  pub work : x.work ≡ columns S + 4 * n S
  pub scratch : x.scratch ≡ columns S + n S

pub fit_parts : (S : Shape) (calls : ℕ) (x : Lengths) → true ≡ buffers_fit S calls x → Fit S calls x
fit_parts S calls x h =
    let a = and_parts (eqb x.answers calls && eqb x.entries table_size) _ (sym h) in
    let b = and_parts (eqb x.extended (columns S) && (eqb x.quotient (n S - 1) && eqb x.public (n S))) _ a.1 in
    let tables = and_parts (eqb x.answers calls) _ a.0 in
    let first = and_parts (eqb x.extended (columns S)) _ b.0 in
    let others = and_parts (eqb x.quotient (n S - 1)) _ first.1 in
    let working = and_parts (eqb x.work (columns S + 4 * n S)) _ b.1 in
    record {
      answers = eqb-true _ _ tables.0;
      entries = eqb-true _ _ tables.1;
      extended = eqb-true _ _ first.0;
      quotient = eqb-true _ _ others.0;
      public = eqb-true _ _ others.1;
      work = eqb-true _ _ working.0;
      scratch = eqb-true _ _ working.1;
    }

-- a head of the shape tells the same
pub fits_at : (S : Shape) (h : Head) (calls : ℕ) (x : Lengths) (b : Bool) → Numbers h S 0 → b ≡ buffers_fit (shape_of h) calls x → b ≡ buffers_fit S calls x
fits_at S h calls x b numbers e = e ∙ ap (λ T. buffers_fit T calls x) (shape_same h S 0 numbers)

-- ── What is owed, once the lines above have passed ──

module _ {F : Type 0} (O : Operations F) (S : Shape) where
  pub planned_passes : (below : Due) → planned O S None ≡ None → planned O S below ≡ below
  planned_passes below h =
      let limits = line_passed (in_limits S) 1 _ h in
      let root = line_passed (leb (log_of_n S) O.adicity) 2 None limits.1 in
      ap (λ t. unless t 1 (unless (leb (log_of_n S) O.adicity) 2 below)) limits.0 ∙ ap (λ t. unless t 2 below) root.0

  pub planned_refused : (below : Due) (number place : ℕ) → planned O S None ≡ Some (number, place) → planned O S below ≡ Some (number, place)
  planned_refused below number place h = go (in_limits S) (leb (log_of_n S) O.adicity) h
    where
      go : (a b : Bool) → unless a 1 (unless b 2 None) ≡ Some (number, place) → unless a 1 (unless b 2 below) ≡ Some (number, place)
      go true true e = let z : ◌≡◌ {A = ℕ} 0 1 = cc in absurd (omega arith)
      go true false e = e
      go false b e = e

  pub fit_next : (calls : List (Call F)) (x : Lengths) (values : ℕ) → planned O S None ≡ None → true ≡ buffers_fit S (length calls) x
      → survey_due O S calls x values ≡ make_due O S values
  fit_next calls x values p h = planned_passes _ p ∙ ap (λ t. unless t 5 (make_due O S values)) (sym h)

  pub fit_refused : (calls : List (Call F)) (x : Lengths) (values : ℕ) → planned O S None ≡ None → false ≡ buffers_fit S (length calls) x
      → survey_due O S calls x values ≡ Some (5, 0)
  fit_refused calls x values p h = planned_passes _ p ∙ ap (λ t. unless t 5 (make_due O S values)) (sym h)

-- ── A made sheet ──

module _ {F : Type 0} (O : Operations F) (S : Shape) (h : Head) (numbers : Numbers h S 0) where
  pub first_size : length (first_values O S.m) ≡ S.m
  first_size =
      let some : 1 ≤ S.m = omega (arith, numbers.wires, h.publics_some, h.publics_within) in
      let size : suc (S.m - 1) ≡ S.m = omega arith in
      ap suc (length-replicate (S.m - 1) O.zero) ∙ size

  pub made_stands : (values : ℕ) (es : List (Entry F)) → make_due O S values ≡ None → length es ≡ table_size
      → Stands O (sheet h es (first_values O S.m)) (fresh O S)
  made_stands values es due table =
      record {
        numbers = numbers;
        table = table;
        used = ap (λ u. take u es) numbers.count;
        places = first_size;
        values = refl;
        root = leb-true _ _ (line_passed _ 2 _ (line_passed (in_limits S) 1 _ due).1).0;
      }
