use Rattle.std.proofs.Common.{length, subst, sym, ap, arith}
use Rattle.std.specs.Iterator.{YieldsFirst}
use Rattle.sheet.specs.Shape.{columns}
use Rattle.sheet.specs.Outcomes.{shape_of}
use Rattle.square_rows.specs.Terms.{coefficients, terms_left}
use Rattle.square_rows.proofs.TermLists.{ahead_none, ahead_next}
use Rattle.square_rows.proofs.combination.terms.scan.TermsIterator.next.Goals as goal

pub returns-in_err-term-clause-steps : goal.returns-in_err-term-clause-steps
returns-in_err-term-clause-steps g c =
    let O = g.F.Field.ops in
    let s = c.args.self.now in
    let none = ahead_none O (columns (shape_of s.head.now)) (coefficients O s) s.from c.in_err-term.ensures in
    subst (λ r. YieldsFirst (terms_left O) s r s) (sym c.from_residual.ensures) (none, none)

pub returns-clause-steps : goal.returns-clause-steps
returns-clause-steps g c =
    let O = g.F.Field.ops in
    let s = c.args.self.now in
    ahead_next O (columns (shape_of s.head.now)) (coefficients O s) s.from c.in_ok-term.term c.in_ok-term.ensures

pub returns-clause-goes : goal.returns-clause-goes
returns-clause-goes g c =
    let O = g.F.Field.ops in
    let s = c.args.self.now in
    let next = ahead_next O (columns (shape_of s.head.now)) (coefficients O s) s.from c.in_ok-term.term c.in_ok-term.ensures in
    let fewer = ap length next in
    record { on = λ _. (tt, tt, omega arith); keeps = tt; rests = λ _. tt }
