use Rattle.std.proofs.Common.{sym, ◌∙◌, ⊎_elim, arith}
use Rattle.sheet.specs.Outcomes.{shape_of}
use Rattle.square_rows.proofs.Weighted.{weighted_elsewhere, weighted_outside, weighted_here, none_private, none_public}
use Rattle.square_rows.proofs.combination.terms.Terms.entry_from.Goals as goal

pub returns-then-e-row-clause-passed : goal.returns-then-e-row-clause-passed
returns-then-e-row-clause-passed g c =
    let L = g.met.F.Field.laws in
    let S = shape_of c.args.self.now.head.now in
    let k = c.args.self.now.combination.now in
    λ w _ _. ⊎_elim (λ h. weighted_elsewhere L S k w c.args.e h) (λ h. weighted_outside L S k w c.args.e (omega (arith, h.1))) c.then-e-row.either

pub returns-then-wire-publics-clause-passed : goal.returns-then-wire-publics-clause-passed
returns-then-wire-publics-clause-passed g c =
    let L = g.met.F.Field.laws in
    let S = shape_of c.args.self.now.head.now in
    let k = c.args.self.now.combination.now in
    let e = c.args.e in
    λ w a b. weighted_here L S k w e (omega arith) (omega arith)
    ∙ sym (none_private L S _ e.wire w (omega arith) (λ z. c.wire_from.ensures.passed w a b (sym z)))

pub returns-clause-passed : goal.returns-clause-passed
returns-clause-passed g c =
    let L = g.met.F.Field.laws in
    let S = shape_of c.args.self.now.head.now in
    let k = c.args.self.now.combination.now in
    let e = c.args.e in
    λ w a b. weighted_here L S k w e (omega arith) (omega arith)
    ∙ sym (none_public L S _ e.wire w (omega arith) (λ z. c.wire_from-2.ensures.passed w a (omega arith) (omega arith)) (λ z. c.wire_from-3.ensures.passed w a (omega arith) (omega arith)))
