use Rattle.std.proofs.Common.{sym, ◌∙◌}
use Rattle.square.proofs.Dots.{only_same, only_other}
use Rattle.square_rows.proofs.term.Term.at.Goals as goal

pub returns-then-self-w : goal.returns-then-self-w
returns-then-self-w g c = sym (only_same g.met.F.Field.laws c.args.self.wire c.args.w c.args.self.coefficient c.if-self-w.true)

pub returns-else-self-w : goal.returns-else-self-w
returns-else-self-w g c = c.zero.ensures ∙ sym (only_other g.met.F.Field.laws c.args.self.wire c.args.w c.args.self.coefficient c.if-self-w.false)
