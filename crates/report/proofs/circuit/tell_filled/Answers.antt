use Rattle.std.proofs.lemmas.Result.{err_from_is_err_and}
use Rattle.report.proofs.Circuits.{tells_filled, tells_refused}
use Rattle.report.proofs.circuit.tell_filled.Goals as goal

pub returns-in_err-head : goal.returns-in_err-head
returns-in_err-head g c =
    let p = err_from_is_err_and c.from_residual.result c.from_residual.ensures.1 in
    rw (p.1, p.2)
    (tells_refused g.met.F.Field.laws g.F.FileField.coordinates g.F.FileField.prime g.F.TextField.DOUBLINGS c.args.reader c.args.witness.now
    c.args.entries.now c.args.values.now c.requires.entries c.requires.values c.fill.new.entries c.fill.new.values
    c.args.out.now _ c.in_err-head.ensures.circuit)

pub returns : goal.returns
returns g c =
    tells_filled g.met.F.Field.laws g.F.FileField.coordinates g.F.FileField.prime g.F.TextField.DOUBLINGS c.args.reader c.args.witness.now
    c.args.entries.now c.args.values.now c.requires.entries c.requires.values c.fill.new.entries c.fill.new.values
    c.args.out.now c.in_ok-head.head c.tell_sheet.new.out c.in_ok-head.ensures.circuit c.tell_sheet.ensures
