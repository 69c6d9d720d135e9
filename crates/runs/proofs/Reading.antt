-- What extend, quotient and public write of a sheet that stands for a model is what the law over runs says of that model.
use Rattle.std.proofs.Common.{◌≡◌, ℕ, ◌+◌, ◌-◌, ◌*◌, ◌≤◌, Bool, true, eqb, leb, List, [], length, take, Some, None, Ok, Err, sym, refl, ap, ◌∙◌, subst, arith}
use Rattle.std.proofs.lemmas.Bool.{and_from, eq-eqb, le-leb}
use Rattle.refusal.specs.Numbers.{number_of}
use Rattle.refusal.specs.Due.{Due, unless, unless_at, Decided}
use Rattle.field.specs.Operations.{Operations, power}
use Rattle.field.specs.Laws.{Laws}
use Rattle.transform.specs.Polynomial.{coefficient, Root, Takes}
use Rattle.transform.proofs.Tables.{length_table, get_or_table}
use Rattle.transform.proofs.Polynomials.{takes_exists, takes_unique, takes_ext}
use Rattle.transform.proofs.Whole.{theory}
use Rattle.sheet.specs.Shape.{Shape, log_of_n, k, n, stride, columns}
use Rattle.sheet.specs.Rules.{table_size}
use Rattle.sheet.specs.Outcomes.{Answer, shape_of}
use Rattle.sheet.specs.Model.{Model, Sheet, Stands}
use Rattle.sheet.specs.declared.entry.Entry.{Entry}
use Rattle.square.specs.Rows.{position, AllHold, FirstFailing, failing_row}
use Rattle.square.specs.Program.{extended, u_row}
use Rattle.square.specs.Polynomials.{ω, QuotientOf, PublicOf}
use Rattle.square.specs.Rules.{all_inside, starts_with_one, extend_due, quotient_due, public_due}
use Rattle.square.specs.Outcomes.{Extended, Divided, Published}
use Rattle.runs.specs.Law.{RefusedWith, OnePolynomial, Satisfied, Unsatisfied, PublicSum, Reading}
use Rattle.field.proofs.Decided.{decided_yes}
use Rattle.square.proofs.FailingRow.{all_hold_none, first_failing_some}
use Rattle.square.proofs.Fits.{Fits}
use Rattle.square.proofs.Heads.{shape_same, head_fits}
use Rattle.square.proofs.Pairs.{pair_extended, extended_pair, pair_unique}
use Rattle.square.proofs.PublicColumns.{public_rows_same, public_coefficients}

-- ── Answers, from what is due ──

unless_passes : (test : Bool) (number : ℕ) (below : Due) → test ≡ true → unless test number below ≡ below
unless_passes test number below e = ap (λ t. unless t number below) e

-- where a granted call ensures P, and a refused one Q
module _ (P Q : Type 0) (due : Due) where
  granted : (r : Answer) → due ≡ None → Decided due r (λ _. P) Q → (r ≡ Ok tt) × P
  granted (Ok _) e d = (refl, d.1)
  granted (Err x) e d = absurd (let owed = d.0 in let z : ◌≡◌ {A = ℕ} 0 1 = cc in omega arith)

  refused : (r : Answer) (number place : ℕ) → due ≡ Some (number, place) → Decided due r (λ _. P) Q → RefusedWith r number place × Q
  refused (Ok _) number place e d = absurd (let owed = d.0 in let z : ◌≡◌ {A = ℕ} 0 1 = cc in omega arith)
  refused (Err x) number place e d =
      let owed = d.0 in
      let same : ◌≡◌ {A = ℕ × ℕ} (number_of x.reason, x.at) (number, place) = cc in
      (((λ i. (same i).0), (λ i. (same i).1)), d.1)

module _ {F : Type 0} {O : Operations F} (L : Laws O) where
  open O use {zero as 𝟘, one as 𝟙, adicity, same}

  -- what is known of the model
  record Ready (b : Model F) : Type 0 where
    fits : Fits b.shape
    places : length b.values ≡ b.shape.m
    root : log_of_n b.shape ≤ adicity
    one : coefficient O b.values 0 ≡ 𝟙
    within : all_inside b.shape b.entries ≡ true

  module _ (b : Model F) (ready : Ready b) where
    open b use {shape, entries, values}

    abbrev c : (matrix row wire : ℕ) → F
    c = position O entries

    abbrev v : ℕ → F
    v = coefficient O values

    -- ── What the three calls owe ──

    places_right : eqb (length values) shape.m ≡ true
    places_right = eq-eqb _ _ ready.places

    root_there : leb (log_of_n shape) adicity ≡ true
    root_there = le-leb _ _ ready.root

    starts : starts_with_one O shape values ≡ true
    starts = decided_yes (same (v 0) 𝟙) ready.one

    extend_none : (table out : ℕ) → table ≡ table_size → out ≡ columns shape → extend_due O shape table (length values) out entries values ≡ None
    extend_none table out t o =
        unless_passes _ 5 _ (and_from _ _ (eq-eqb table table_size t) (and_from _ _ places_right (eq-eqb out (columns shape) o)))
        ∙ unless_passes _ 6 _ (and_from _ _ starts ready.within)

    quotient_row : (table out work : ℕ) → table ≡ table_size → out ≡ n shape - 1 → work ≡ columns shape + 4 * n shape
        → quotient_due O shape table (length values) out work entries values ≡ unless_at (failing_row O shape c v) 7 None
    quotient_row table out work t o w =
        unless_passes _ 2 _ root_there
        ∙ unless_passes _ 5 _
        (and_from _ _ (eq-eqb table table_size t)
        (and_from _ _ places_right (and_from _ _ (eq-eqb out (n shape - 1) o) (eq-eqb work (columns shape + 4 * n shape) w))))
        ∙ unless_passes _ 6 _ (and_from _ _ starts ready.within)

    public_none : (out : ℕ) → out ≡ n shape → public_due O shape (length values) out values ≡ None
    public_none out o =
        unless_passes _ 2 _ root_there
        ∙ unless_passes _ 5 _ (and_from _ _ places_right (eq-eqb out (n shape) o))
        ∙ unless_passes _ 6 _ starts

    -- ── What they write ──

    ω_root : Root O (log_of_n shape) (ω O shape)
    ω_root = (theory L).roots (log_of_n shape) ready.root

    one_polynomial : (y : ℕ → F) → OnePolynomial O shape y
    one_polynomial y =
        let found = takes_exists L (log_of_n shape) (ω O shape) ω_root y in
        record { polynomial = found.0; takes = found.1; once = λ d t. takes_unique L (log_of_n shape) (ω O shape) ω_root y d found.0 t found.1 }

    satisfied : (q : Answer) (h : List F) → q ≡ Ok tt → QuotientOf O shape c (extended O shape c v) h → Satisfied O b (extended O shape c v) q h
    satisfied q h ok quotient =
        record {
          granted = ok;
          pair = extended_pair L shape ready.fits c ω_root values ready.one h quotient;
          only = λ z' h' p. pair_unique L shape ready.fits c ω_root values h z' h' quotient p;
        }

    unsatisfied : (i : ℕ) (q : Answer) (buffer h : List F) → FirstFailing O shape c v i → RefusedWith q 7 i → h ≡ buffer → Unsatisfied O b i q buffer h
    unsatisfied i q buffer h failing no_row kept =
        record {
          refused = no_row;
          unchanged = kept;
          none = λ z' h' p. failing.fails ((pair_extended L shape ready.fits c ω_root values z' h' p).1 i failing.row);
        }

    public_sum : (p : List F) → PublicOf O shape (position O []) values p → PublicSum O b p
    public_sum p made =
        record {
          size = ap length made.is ∙ length_table (n shape) _;
          columns = λ j _. takes_exists L (log_of_n shape) (ω O shape) ω_root _;
          sums = λ column takes e h.
              public_coefficients L shape ready.fits c v ω_root column made.p takes rows e h
              ∙ sym (ap (λ t. coefficient O t e) made.is ∙ get_or_table (n shape) _ 𝟘 e h);
        }
      where
        rows : Takes O (k shape) (power O (ω O shape) (stride shape)) (λ t. u_row O shape c v (t * stride shape)) made.p
        rows =
            takes_ext L (k shape) (power O (ω O shape) (stride shape)) _ _ made.p
            (λ t _. public_rows_same L shape ready.fits (position O []) c v t)
            made.p_takes

  -- ── The sheet's own model ──

  abbrev model_of : Sheet F → Model F
  model_of s = record { shape = shape_of s.head; entries = take s.head.used s.entries; values = s.values }

  stands_for : (s : Sheet F) (b : Model F) → Stands O s b → model_of s ≡ b
  stands_for s b stands i =
      record { shape = shape_same s.head b.shape (length b.entries) stands.numbers i; entries = stands.used i; values = stands.values i }

  -- ── Each call on the sheet, and what the law says of the model ──

  abbrev Divides : Sheet F → Model F → Type 0
  Divides s b = (h₀ h : List F) (work : ℕ) (q : Answer) → length h₀ ≡ n b.shape - 1 → work ≡ columns b.shape + 4 * n b.shape
      → Divided O s.head s.entries s.values h₀ work q h
      → (AllHold O b.shape (position O b.entries) (coefficient O b.values) → Satisfied O b (extended O b.shape (position O b.entries) (coefficient O b.values)) q h)
      × ((i : ℕ) → FirstFailing O b.shape (position O b.entries) (coefficient O b.values) i → Unsatisfied O b i q h₀ h)

  own_divides : (s : Sheet F) → length s.entries ≡ table_size → Ready (model_of s) → Divides s (model_of s)
  own_divides s table ready h₀ h work q h_size work_size divides = (
    λ holds.
        let ok = granted _ _ _ q (quotient ∙ ap (λ t. unless_at t 7 None) (all_hold_none O S c' v' holds)) divides in
        satisfied (model_of s) ready q h ok.0 ok.1,
    λ i failing.
        let told = refused _ _ _ q 7 i (quotient ∙ ap (λ t. unless_at t 7 None) (first_failing_some O S c' v' i failing)) divides in
        unsatisfied (model_of s) ready i q h₀ h failing told.0 told.1,
  )
    where
      S : Shape
      S = shape_of s.head

      used : List (Entry F)
      used = take s.head.used s.entries

      c' : (matrix row wire : ℕ) → F
      c' = position O used

      v' : ℕ → F
      v' = coefficient O s.values

      quotient : quotient_due O S (length s.entries) (length s.values) (length h₀) work used s.values ≡ unless_at (failing_row O S c' v') 7 None
      quotient = quotient_row (model_of s) ready (length s.entries) (length h₀) work table h_size work_size

  abbrev Publishes : Sheet F → Model F → Type 0
  Publishes s b = (p₀ p : List F) (r : Answer) → length p₀ ≡ n b.shape → Published O s.head s.values p₀ r p → (r ≡ Ok tt) × PublicSum O b p

  own_publishes : (s : Sheet F) → Ready (model_of s) → Publishes s (model_of s)
  own_publishes s ready p₀ p r p_size publishes =
      let ok = granted _ _ _ r (public_none (model_of s) ready (length p₀) p_size) publishes in
      (ok.0, public_sum (model_of s) ready p ok.1)

  abbrev Extends : Sheet F → Model F → Type 0
  Extends s b = (z₀ z : List F) (x : Answer) → length z₀ ≡ columns b.shape → Extended O s.head s.entries s.values z₀ x z
      → (x ≡ Ok tt) × (z ≡ extended O b.shape (position O b.entries) (coefficient O b.values))

  own_extends : (s : Sheet F) → length s.entries ≡ table_size → Ready (model_of s) → Extends s (model_of s)
  own_extends s table ready z₀ z x z_size extends =
      granted _ _ _ x (extend_none (model_of s) ready (length s.entries) (length z₀) table z_size) extends

-- of a sheet that stands for a model with one on wire 0 and entries within the sheet
module _ {F : Type 0} {O : Operations F} (L : Laws O) (b : Model F) (s : Sheet F) (stands : Stands O s b)
    (one : coefficient O b.values 0 ≡ O.one) (within : all_inside b.shape b.entries ≡ true) where
  ready : Ready L b
  ready =
      record {
        fits = subst Fits (shape_same s.head b.shape (length b.entries) stands.numbers) (head_fits s.head);
        places = ap length (sym stands.values) ∙ stands.places;
        root = stands.root;
        one = one;
        within = within;
      }

  pub quotient_reads : Divides L s b
  quotient_reads = subst (λ b. Ready L b → Divides L s b) (stands_for L s b stands) (own_divides L s stands.table) ready

  pub public_reads : Publishes L s b
  public_reads = subst (λ b. Ready L b → Publishes L s b) (stands_for L s b stands) (own_publishes L s) ready

  extend_reads : Extends L s b
  extend_reads = subst (λ b. Ready L b → Extends L s b) (stands_for L s b stands) (own_extends L s stands.table) ready

  pub survey_reads : (z₀ z h₀ h p₀ p : List F) (work : ℕ) (x q r : Answer)
      → length z₀ ≡ columns b.shape → length h₀ ≡ n b.shape - 1 → work ≡ columns b.shape + 4 * n b.shape → length p₀ ≡ n b.shape
      → Extended O s.head s.entries s.values z₀ x z
      → Divided O s.head s.entries s.values h₀ work q h
      → Published O s.head s.values p₀ r p
      → Reading O b x z q h₀ h r p
  survey_reads z₀ z h₀ h p₀ p work x q r z_size h_size work_size p_size extends divides publishes =
      let extend_ok = extend_reads z₀ z x z_size extends in
      let quotient = quotient_reads h₀ h work q h_size work_size divides in
      let public_ok = public_reads p₀ p r p_size publishes in
      record {
        polynomials = one_polynomial L b ready;
        extend_granted = extend_ok.0;
        extend_writes = extend_ok.1;
        satisfied = λ holds. subst (λ t. Satisfied O b t q h) (sym extend_ok.1) (quotient.0 holds);
        unsatisfied = quotient.1;
        public_granted = public_ok.0;
        public_sum = public_ok.1;
      }
