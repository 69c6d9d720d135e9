use Rattle.std.proofs.Common.{[], ◌∷◌, sym, ap, ◌∙◌, ap₂}
use Rattle.std.proofs.lemmas.List.{take_all}
use Rattle.sheet.specs.Outcomes.{shape_of}
use Rattle.square.specs.Rows.{position}
use Rattle.square_rows.specs.Combined.{own, weighted, combined}
use Rattle.square_rows.proofs.Weighted.{weighted_none, weighted_more}
use Rattle.square_rows.proofs.combination.terms.Terms.coefficient.Goals as goal

pub loop-e-init : goal.loop-e-init
unfolding own
loop-e-init g c =
    let L = g.met.F.Field.laws in
    let O = g.F.Field.ops in
    let k = c.args.self.now.combination.now in
    c.add-sum.ensures
    ∙ ap₂ O.add c.at.ensures c.at-2.ensures
    ∙ sym (L.ring.add_zero _)
    ∙ ap (O.add (own O k c.args.w)) (sym (weighted_none L (shape_of c.args.self.now.head.now) k c.args.w))

pub loop-e-preserved : goal.loop-e-preserved
loop-e-preserved g c =
    let L = g.met.F.Field.laws in
    let O = g.F.Field.ops in
    let k = c.args.self.now.combination.now in
    let S = shape_of c.args.self.now.head.now in
    let w = c.args.w in
    let es = c.args.self.now.used.now in
    let i = c.loop-e.e-index in
    c.add-sum-in-loop-e.ensures
    ∙ ap₂ O.add c.loop-e.invariant (c.share.ensures ∙ ap (λ e. weighted O S (position O (e ∷ [])) k w) c.e-item.is)
    ∙ L.ring.add_assoc _ _ _
    ∙ ap (O.add (own O k w)) (sym (weighted_more L S k w es i c.e-item.result c.loop-e-test.true))

pub returns : goal.returns
returns g c =
    let O = g.F.Field.ops in
    c.loop-e.invariant
    ∙ ap (λ es. combined O (shape_of c.args.self.now.head.now) (position O es) c.args.self.now.combination.now c.args.w) (take_all c.loop-e.e-index c.args.self.now.used.now c.loop-e-test.false)
