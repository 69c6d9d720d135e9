use Rattle.std.proofs.Common.{length, ap, ◌∙◌, min}
use native.Mathlib.Nat.{min-eq_left}
use Rattle.std.proofs.lemmas.Result.{err_from_is_err_and}
use Rattle.sapsheet_c.proofs.Files.{files_refused, files_taken}
use Rattle.sapsheet_c.proofs.answer.answer_filled.Goals as goal

pub returns-in_err-head : goal.returns-in_err-head
returns-in_err-head g c k starts proper over =
    let p = err_from_is_err_and c.from_residual.result c.from_residual.ensures.1 in
    rw (p.1, p.2)
    (files_refused g.met.F.Field.laws g.F.FileField.prime k proper over c.args.witness.now c.args.answer.now c.args.reader.prime_at
    (length c.args.entries.now) (length c.args.values.now) c.requires.entries
    (λ few. c.requires.values ∙ ap (λ w. min w 2048) starts.wires ∙ min-eq_left few)
    _ (c.in_err-head.ensures.circuit k starts proper).0)

pub returns : goal.returns
returns g c k starts proper over =
    let told = c.in_ok-head.ensures.circuit k starts proper in
    files_taken g.met.F.Field.laws g.F.FileField.prime k proper over c.args.witness.now c.args.answer.now c.args.reader.prime_at
    (length c.args.entries.now) (length c.args.values.now) c.requires.entries
    (λ few. c.requires.values ∙ ap (λ w. min w 2048) starts.wires ∙ min-eq_left few)
    c.in_ok-head.head c.fill.new.entries c.fill.new.values c.answer_sheet.result c.answer_sheet.new.answer told.0 told.1 c.answer_sheet.ensures
