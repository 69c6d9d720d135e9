use Rattle.std.proofs.Common.{sym, arith}
use Rattle.sheet.specs.Outcomes.{shape_of}
use Rattle.square_rows.proofs.Places.{multiple_past, multiple_even, multiple_odd}
use Rattle.square_rows.proofs.kinds.kind_of_multiple.Goals as goal

pub returns-then-t-publics-clause-is : goal.returns-then-t-publics-clause-is
returns-then-t-publics-clause-is c = sym (multiple_past (shape_of c.args.head.now) c.args.t (omega arith))

pub returns-then-t-eq0-clause-is : goal.returns-then-t-eq0-clause-is
returns-then-t-eq0-clause-is c = sym (multiple_even (shape_of c.args.head.now) c.args.t (omega arith) c.if-t-eq0.true)

pub returns-else-t-eq0-clause-is : goal.returns-else-t-eq0-clause-is
returns-else-t-eq0-clause-is c = sym (multiple_odd (shape_of c.args.head.now) c.args.t (omega arith) c.if-t-eq0.false)
