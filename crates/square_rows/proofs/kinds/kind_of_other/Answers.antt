use Rattle.std.proofs.Common.{sym, arith}
use Rattle.sheet.specs.Outcomes.{shape_of}
use Rattle.square_rows.proofs.Places.{other_past, other_even, other_odd}
use Rattle.square_rows.proofs.kinds.kind_of_other.Goals as goal

pub returns-then-x-rows-clause-is : goal.returns-then-x-rows-clause-is
returns-then-x-rows-clause-is c = sym (other_past (shape_of c.args.head.now) c.args.x (omega arith))

pub returns-then-x-eq0-clause-is : goal.returns-then-x-eq0-clause-is
returns-then-x-eq0-clause-is c = sym (other_even (shape_of c.args.head.now) c.args.x (omega arith) c.if-x-eq0.true)

pub returns-else-x-eq0-clause-is : goal.returns-else-x-eq0-clause-is
returns-else-x-eq0-clause-is c = sym (other_odd (shape_of c.args.head.now) c.args.x (omega arith) c.if-x-eq0.false)
