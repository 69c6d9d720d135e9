use Rattle.std.proofs.Common.{map, sym, ap, ◌∙◌}
use Rattle.field.specs.Operations.{ones}
use Rattle.assignments.specs.Assigned.{values, values_at}
use Rattle.std.proofs.lemmas.Result.{err_from_is_err_and}
use Rattle.frames.proofs.Faults.{stops, told_at}
use Rattle.solving.proofs.Filling.{too_long, as_read, filled}
use Rattle.solving.proofs.fill.fill.Goals as goal

pub returns-in_err-head : goal.returns-in_err-head
returns-in_err-head g c =
    let p = err_from_is_err_and c.from_residual.result c.from_residual.ensures.1 in
    let told = c.in_err-head.ensures in
    rw (p.1, p.2) (record {
      reader = (stops _ _ _ told.any.0, tt);
      circuit = λ k starts proper. (stops _ _ _ (told.circuit k starts proper).0, tt);
    })

pub returns-then-witness-most : goal.returns-then-witness-most
returns-then-witness-most g c =
    let told = c.in_ok-head.ensures in
    let e = sym (told_at _ _ _ c.at.ensures) in
    record {
      reader = (too_long _ c.args.witness.now c.args.most _ _ told.any.0 c.if-witness-most.true ∙ e, tt);
      circuit = λ k starts proper. (too_long _ c.args.witness.now c.args.most _ _ (told.circuit k starts proper).0 c.if-witness-most.true ∙ e, tt);
    }

pub returns-in_err-read : goal.returns-in_err-read
returns-in_err-read g c =
    let p = err_from_is_err_and c.from_residual-in_err-read.result c.from_residual-in_err-read.ensures.1 in
    let told = c.in_ok-head.ensures in
    let owed = c.in_err-read.ensures.verdict.0 in
    rw (p.1, p.2) (record {
      reader = (as_read _ c.args.witness.now c.args.most _ _ _ told.any.0 c.if-witness-most.false c.load.auto.values ∙ owed, tt);
      circuit = λ k starts proper. (as_read _ c.args.witness.now c.args.most _ _ _ (told.circuit k starts proper).0 c.if-witness-most.false c.load.auto.values ∙ owed, tt);
    })

pub returns : goal.returns
returns g c =
    let O = g.F.Field.ops in
    let told = c.in_ok-head.ensures in
    let read = c.in_ok-read.ensures in
    let same = c.load.auto.values in
    record {
      reader = (
        as_read _ c.args.witness.now c.args.most _ _ _ told.any.0 c.if-witness-most.false same ∙ read.verdict.0,
        (c.load.new.values, told.any.1, read.verdict.1 ∙ ap (λ n. map (ones O) (values c.args.witness.now n (values_at c.args.witness.now))) same),
      );
      circuit = λ k starts proper. (
        as_read _ c.args.witness.now c.args.most _ _ _ (told.circuit k starts proper).0 c.if-witness-most.false same ∙ read.verdict.0,
        filled O k c.in_ok-head.head c.load.new.entries c.load.new.values c.read.new.table c.args.witness.now g.F.FileField.prime
            (told.circuit k starts proper).1 c.read.auto.table read.assignment,
      );
    }
