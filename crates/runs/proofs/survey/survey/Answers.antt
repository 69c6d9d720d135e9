use Rattle.std.proofs.Common.{◌≡◌, ℕ, ◌+◌, ◌*◌, List, length, Some, sym, refl, ap, ◌∙◌, subst, ap₂}
use Rattle.std.proofs.lemmas.Result.{err_from_is_err_and}
use Rattle.refusal.specs.Due.{Due}
use Rattle.refusal.specs.Numbers.{number_of}
use Rattle.refusal.specs.declared.reason.Refusal.{Refusal}
use Rattle.sheet.specs.Shape.{n, columns}
use Rattle.sheet.specs.Outcomes.{counted}
use Rattle.sheet.specs.Model.{sheet}
use Rattle.square.proofs.Heads.{shape_same, n_same, columns_same}
use Rattle.runs.specs.Runs.{Run}
use Rattle.runs.specs.Survey.{Buffers, held, sizes, survey_due}
use Rattle.runs.specs.declared.surveyed.Surveyed.{Surveyed}
use Rattle.runs.proofs.Told.{fits_at, fit_parts, fit_next, fit_refused, planned_refused, first_size}
use Rattle.runs.proofs.Whole.{told}
use Rattle.runs.proofs.survey.survey.Goals as goal

pub returns-in_err-planned : goal.returns-in_err-planned
returns-in_err-planned g c =
    let p = err_from_is_err_and c.from_residual.result c.from_residual.ensures.1 in
    rw (p.1, p.2) (planned_refused g.F.Field.ops (counted c.args.counts) _ _ _ c.in_err-planned.ensures.0, refl)

pub returns-then-not-fits : goal.returns-then-not-fits
returns-then-not-fits g c =
    let O = g.F.Field.ops in
    let S = counted c.args.counts in
    let calls = c.args.calls.now in
    let x = sizes c.args.lent in
    let values = length c.args.lent.values.now in
    let plan = c.in_ok-planned.ensures in
    let refused = fit_refused O S calls x values plan.0 (fits_at S c.in_ok-planned.planned (length calls) x _ plan.1 c.if-not-fits.ensures) in
    let owed = ap₂ (λ (r : Refusal) (a : ℕ). ◌≡◌ {A = Due} (survey_due O S calls x values) (Some (number_of r, a))) (sym c.at.ensures.0) (sym c.at.ensures.1) in
    (subst (λ (T : Type 0). T) owed refused, refl)

pub returns-in_err-head : goal.returns-in_err-head
returns-in_err-head g c =
    let O = g.F.Field.ops in
    let S = counted c.args.counts in
    let calls = c.args.calls.now in
    let x = held c.args.lent in
    let plan = c.in_ok-planned.ensures in
    let fits = fits_at S c.in_ok-planned.planned (length calls) (sizes c.args.lent) _ plan.1 c.if-not-fits.ensures in
    let made = c.in_err-head.ensures in
    let p = err_from_is_err_and c.from_residual-in_err-head.result c.from_residual-in_err-head.ensures.1 in
    let same = ap (λ (v : List g.row.F.Denot). ◌≡◌ {A = Buffers g.row.F.Denot} (record { answers = x.answers; entries = x.entries; values = v; extended = x.extended; quotient = x.quotient; public = x.public }) x) (sym made.1) in
    rw (p.1, p.2) (fit_next O S calls (sizes c.args.lent) (length x.values) plan.0 fits ∙ made.0, subst (λ (T : Type 0). T) same refl)

pub replay-requires : goal.replay-requires
replay-requires g c =
    let O = g.F.Field.ops in
    let S = counted c.args.counts in
    let calls = length c.args.calls.now in
    let plan = c.in_ok-planned.ensures in
    let fit = fit_parts S calls (sizes c.args.lent) (fits_at S c.in_ok-planned.planned calls (sizes c.args.lent) _ plan.1 c.if-not-fits.ensures) in
    let made = c.in_ok-head.ensures.1 in
    let h = c.in_ok-head.head in
    let same = shape_same h S 0 made.0 in
    let wide : columns S ≡ h.columns = sym (columns_same h ∙ ap columns same) in
    let large : n S ≡ h.n = sym (n_same h ∙ ap n same) in
    record {
      table = fit.entries;
      places = ap length made.1 ∙ first_size O S h made.0 ∙ sym made.0.wires;
      room = fit.scratch ∙ ap₂ (λ (a b : ℕ). a + b) wide large;
      work = fit.work ∙ ap₂ (λ (a b : ℕ). a + 4 * b) wide large;
      count = fit.answers;
    }

pub returns : goal.returns
returns g c =
    let O = g.F.Field.ops in
    let S = counted c.args.counts in
    let calls = c.args.calls.now in
    let x = held c.args.lent in
    let plan = c.in_ok-planned.ensures in
    let fits = fits_at S c.in_ok-planned.planned (length calls) (sizes c.args.lent) _ plan.1 c.if-not-fits.ensures in
    let made = c.in_ok-head.ensures in
    let h = c.in_ok-head.head in
    let y : Buffers g.row.F.Denot = record { answers = c.replay.new.answers; entries = c.replay.new.entries; values = c.replay.new.values; extended = c.extend-extend.new.out; quotient = c.quotient-quotient.new.out; public = c.public-public.new.out } in
    let s : Surveyed = record { head = c.replay.new.head; extend = c.extend-extend.result; quotient = c.quotient-quotient.result; public = c.public-public.result } in
    let run = subst (λ (v : List g.row.F.Denot). Run O (sheet h x.entries v) calls y.answers (sheet s.head y.entries y.values)) made.1.1 c.replay.ensures in (
      fit_next O S calls (sizes c.args.lent) (length x.values) plan.0 fits ∙ made.0,
      told g.met.F.Field.laws S calls x y s h x.values (length c.args.lent.work.now) (length c.replay.new.work) (length c.args.lent.scratch.now)
          made.0 made.1.0 (fit_parts S (length calls) (sizes c.args.lent) fits) c.replay.auto.work run
          c.extend-extend.ensures c.quotient-quotient.ensures c.public-public.ensures,
    )
