use Rattle.std.proofs.Common.{ℕ, ◌+◌, ◌*◌, length, sym, refl, ◌∙◌, ap₂}
use Rattle.sheet.specs.Model.{sheet}
use Rattle.runs.proofs.Replay.{below_same, at_end, step_large, large_again, run_next, run_all}
use Rattle.runs.proofs.list.replay.Goals as goal

pub loop-i-init : goal.loop-i-init
loop-i-init g c = (record { wires = refl; columns = refl; n = refl }, λ t rest run. run)

pub step-requires : goal.step-requires
step-requires g c =
    let large = c.loop-i.invariant.0 in
    record {
      table = c.loop-i.auto.entries ∙ c.requires.table;
      places = c.loop-i.auto.values ∙ c.requires.places ∙ sym large.wires;
      room = c.loop-i.auto.scratch ∙ c.requires.room ∙ sym (ap₂ (λ (x y : ℕ). x + y) large.columns large.n);
      work = c.loop-i.auto.work ∙ c.requires.work ∙ sym (ap₂ (λ (x y : ℕ). x + 4 * y) large.columns large.n);
    }

pub bounds-answers-i : goal.bounds-answers-i
bounds-answers-i g c = below_same c.loop-i.i _ _ _ c.loop-i-test.true c.loop-i.auto.answers c.requires.count

pub loop-i-preserved : goal.loop-i-preserved
loop-i-preserved g c =
    let O = g.F.Field.ops in
    let from = sheet c.loop-i.head c.loop-i.entries c.loop-i.values in
    let to = sheet c.step.new.head c.step.new.entries c.step.new.values in
    let start = sheet c.args.head.now c.args.entries.now c.args.values.now in
    let large = step_large O from c.index-calls-i.result c.step.result to c.step.ensures in
    let room = below_same c.loop-i.i _ _ _ c.loop-i-test.true c.loop-i.auto.answers c.requires.count in (
      large_again c.args.head.now c.loop-i.head c.step.new.head c.loop-i.invariant.0 large,
      run_next O start c.args.calls.now c.loop-i.answers c.loop-i.i from c.index-calls-i.result c.step.result to
          c.loop-i-test.true room c.index-calls-i.is c.step.ensures c.loop-i.invariant.1,
    )

pub returns : goal.returns
returns g c =
    let start = sheet c.args.head.now c.args.entries.now c.args.values.now in
    let last = sheet c.loop-i.head c.loop-i.entries c.loop-i.values in
    let done = at_end (length c.args.calls.now) c.loop-i.i c.loop-i-test.false c.loop-i.auto.i-end in
    run_all g.F.Field.ops start c.args.calls.now c.loop-i.answers c.loop-i.i last done (c.loop-i.auto.answers ∙ c.requires.count ∙ done) c.loop-i.invariant.1
