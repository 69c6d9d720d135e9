use Rattle.std.proofs.Common.{arith}
use Rattle.sheet.specs.Model.{sheet}
use Rattle.report.proofs.Sheets.{tells_solved, tells_failing, narrow_enough}
use Rattle.report.proofs.survey.tell_within.Goals as goal

pub append_polynomials-requires-clause-narrow : goal.append_polynomials-requires-clause-narrow
append_polynomials-requires-clause-narrow g c =
    narrow_enough g.F.FileField.width g.F.Field.ops.adicity _ c.args.head.now g.met.F.TextField.narrow c.requires.root
    (omega (arith, c.quotient.auto.out, c.requires.divided, c.args.head.now.n_enough, c.args.head.now.k_enough, c.args.head.now.publics_some))

pub returns-in-Ok : goal.returns-in-Ok
returns-in-Ok g c b stands one within =
    tells_solved g.met.F.Field.laws g.F.FileField.coordinates g.F.FileField.prime g.F.TextField.DOUBLINGS b
    (sheet c.args.head.now c.args.entries.now c.args.values.now) stands one within
    c.args.out.now c.append_sheet.new.out c.append_polynomials.new.out
    (simp (c.prime.ensures.value, c.DOUBLINGS.ensures) at c.append_sheet.ensures.text)
    c.args.divided.now c.quotient.new.out _ c.requires.divided c.requires.work
    c.args.published.now c.public.new.out c.public.result c.requires.published
    c.in-Ok.ensures c.public.ensures c.append_polynomials.ensures

pub returns-in-Err : goal.returns-in-Err
returns-in-Err g c b stands one within =
    tells_failing g.met.F.Field.laws g.F.FileField.coordinates g.F.FileField.prime g.F.TextField.DOUBLINGS b
    (sheet c.args.head.now c.args.entries.now c.args.values.now) stands one within
    c.args.out.now c.append_sheet.new.out c.append_refusal.new.out
    (simp (c.prime.ensures.value, c.DOUBLINGS.ensures) at c.append_sheet.ensures.text)
    c.args.divided.now c.quotient.new.out _ c.requires.divided c.requires.work
    c.in-Err.e c.in-Err.ensures c.append_refusal.ensures
