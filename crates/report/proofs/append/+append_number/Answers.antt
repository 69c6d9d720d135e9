use Rattle.std.proofs.Common.{sym, arith}
use Rattle.std.proofs.lemmas.Fmt.{decimal_digit, decimal_nonempty}
use Rattle.report.proofs.Texts.{append_put, append_same, append_left, append_last, decimal_longer}
use Rattle.report.proofs.append.+append_number.Goals as goal

pub returns-then-v-lt10 : goal.returns-then-v-lt10
returns-then-v-lt10 t c =
    let digit = decimal_digit c.args.v c.if-v-lt10.true in
    append_same (sym digit) (append_put (omega (arith, decimal_nonempty c.args.v (omega arith))) c.put.ensures)

pub append_number-requires : goal.append_number-requires
append_number-requires t c = (omega arith, omega (arith, decimal_longer c.args.v c.if-v-lt10.false (omega arith)))

pub returns : goal.returns
returns t c =
    let front = c.append_number.ensures in
    let longer = decimal_longer c.args.v c.if-v-lt10.false (omega arith) in
    append_last c.args.v c.if-v-lt10.false (omega arith) front (append_put (omega (arith, longer, append_left front)) c.put-2.ensures)
