-- The law over runs: a run keeps the sheet standing for a sound model, and what is read from such a sheet is as claimed.
use Rattle.std.proofs.Common.{◌≡◌, ℕ, ◌+◌, ◌-◌, ◌*◌, List, length, None, sym, refl, ap, ◌∙◌, subst}
use Rattle.field.specs.Operations.{Operations}
use Rattle.field.specs.Laws.{Laws}
use Rattle.sheet.specs.Shape.{Shape, n, columns}
use Rattle.sheet.specs.Rules.{make_due}
use Rattle.sheet.specs.Outcomes.{Numbers, first_values}
use Rattle.sheet.specs.Model.{sheet, fresh, after_all}
use Rattle.sheet.specs.declared.head.Head.{Head}
use Rattle.sheet.specs.declared.call.Call.{Call}
use Rattle.square.specs.Outcomes.{Extended, Divided, Published}
use Rattle.runs.specs.Runs.{Run}
use Rattle.runs.specs.Law.{LawOverRuns}
use Rattle.runs.specs.Survey.{Buffers, Told, lengths}
use Rattle.runs.specs.declared.surveyed.Surveyed.{Surveyed}
use Rattle.runs.proofs.Stands.{run_stands}
use Rattle.runs.proofs.Sound.{all_sound, fresh_sound, all_shape}
use Rattle.runs.proofs.Told.{Fit, made_stands}
use Rattle.runs.proofs.Reading.{survey_reads}

pub law : {F : Type 0} (O : Operations F) → LawOverRuns O
law {F} O L S v₀ v h es t calls answers made table run =
    let start = made_stands O S h made.1.0 _ es made.0 table in
    let fresh_run = subst (λ (vs : List F). Run O (sheet h es vs) calls answers t) made.1.1 run in
    let stand = run_stands O calls answers (sheet h es (first_values O S.m)) t (fresh O S) fresh_run start in
    let sound = all_sound O calls (fresh O S) (fresh_sound O S) in
    (record { stands = stand.0; reads = survey_reads L (after_all (fresh O S) calls) t stand.0 sound.one sound.within }, stand.1)

-- ── Survey: make, the list, and the three calls that read ──

pub told : {F : Type 0} {O : Operations F} (L : Laws O) (S : Shape) (calls : List (Call F)) (x y : Buffers F) (s : Surveyed) (first : Head) (v₀ : List F) (work work' scratch : ℕ)
    → make_due O S (length v₀) ≡ None → Numbers first S 0 → Fit S (length calls) (lengths O S calls x work scratch) → work' ≡ work
    → Run O (sheet first x.entries (first_values O S.m)) calls y.answers (sheet s.head y.entries y.values)
    → Extended O s.head y.entries y.values x.extended s.extend y.extended
    → Divided O s.head y.entries y.values x.quotient work' s.quotient y.quotient
    → Published O s.head y.values x.public s.public y.public
    → Told O S calls x y s
told {O} L S calls x y s first v₀ work work' scratch due numbers fit same_work run extends divides publishes =
    let whole = law O L S v₀ (first_values O S.m) first x.entries (sheet s.head y.entries y.values) calls y.answers (due, (numbers, refl)) fit.entries run in
    let same = sym (all_shape calls (fresh O S)) in
    record {
      first = first;
      numbers = numbers;
      run = run;
      stands = whole.0.stands;
      owed = whole.1;
      reads = whole.0.reads x.extended y.extended x.quotient y.quotient x.public y.public work' s.extend s.quotient s.public
          (fit.extended ∙ ap columns same) (fit.quotient ∙ ap (λ T. n T - 1) same) (same_work ∙ fit.work ∙ ap (λ T. columns T + 4 * n T) same) (fit.public ∙ ap n same)
          extends divides publishes;
    }
