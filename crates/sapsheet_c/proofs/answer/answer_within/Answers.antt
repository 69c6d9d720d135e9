use Rattle.std.proofs.Common.{rules}
use Rattle.std.proofs.lemmas.Result.{err_from_is_err_and}
use Rattle.sapsheet_c.proofs.Written.{from_front}
use Rattle.sapsheet_c.proofs.Sheets.{too_short, granted, row_fails}
use Rattle.sapsheet_c.proofs.answer.answer_within.Goals as goal

pub returns-then-answer-divided : goal.returns-then-answer-divided
returns-then-answer-divided g c b stands one within =
    too_short g.met.F.Field.laws g.F.FileField.prime c.args.head.now c.args.entries.now c.args.values.now c.args.answer.now b stands
    c.args.divided.now c.requires.divided c.at.result c.if-answer-divided.true c.at.ensures.0

pub returns-in_err-quotient : goal.returns-in_err-quotient
returns-in_err-quotient g c b stands one within =
    let p = err_from_is_err_and c.from_residual.result c.from_residual.ensures.1 in
    rw (p.1, p.2)
    (row_fails g.met.F.Field.laws g.F.FileField.prime c.args.head.now c.args.entries.now c.args.values.now c.args.answer.now b stands
    c.args.divided.now c.requires.divided one within c.quotient.new.out _ c.requires.work c.if-answer-divided.false _ c.in_err-quotient.ensures)

pub returns : goal.returns
returns g c b stands one within =
    let told = c.write_numbers.ensures in
    let same = told.3.buffer in
    let all = from_front c.new.result c.write_numbers.new.out told.0 c.args.answer.now c.new.ensures.written c.new.ensures.rest told.3 in
    granted g.met.F.Field.laws g.F.FileField.prime c.args.head.now c.args.entries.now c.args.values.now c.args.answer.now b stands
    c.args.divided.now c.requires.divided one within c.quotient.new.out _ c.requires.work c.if-answer-divided.false
    _ c.in_ok-quotient.ensures told.0 told.1 told.2 (search (rules, all, same))
