use Rattle.std.proofs.Common.{◌∙◌, arith}
use Rattle.sheet.specs.Outcomes.{shape_of}
use Rattle.square_rows.proofs.Weighted.{at_itself, none_private, at_p, at_q, none_public}
use Rattle.square_rows.proofs.combination.terms.scan.at_image.Goals as goal

pub returns-then-w-wire : goal.returns-then-w-wire
returns-then-w-wire g c = at_itself g.met.F.Field.laws (shape_of c.args.head.now) c.args.x c.args.wire c.args.w (omega arith) (omega arith)

pub returns-else-w-wire : goal.returns-else-w-wire
returns-else-w-wire g c =
    c.zero.ensures ∙ none_private g.met.F.Field.laws (shape_of c.args.head.now) c.args.x c.args.wire c.args.w (omega arith) (λ e. omega arith)

pub returns-then-w-p : goal.returns-then-w-p
returns-then-w-p g c = at_p g.met.F.Field.laws (shape_of c.args.head.now) c.args.x c.args.wire c.args.w (omega arith) (omega arith)

pub returns-then-w-p-2 : goal.returns-then-w-p-2
returns-then-w-p-2 g c = c.neg.ensures ∙ at_q g.met.F.Field.laws (shape_of c.args.head.now) c.args.x c.args.wire c.args.w (omega arith) (omega arith)

pub returns-else-w-p-2 : goal.returns-else-w-p-2
returns-else-w-p-2 g c =
    c.zero-else-w-p-2.ensures
    ∙ none_public g.met.F.Field.laws (shape_of c.args.head.now) c.args.x c.args.wire c.args.w (omega arith) (λ e. omega arith) (λ e. omega arith)
