use Rattle.std.proofs.Common.{sym, ◌∙◌, ⊎_elim, arith}
use Rattle.sheet.specs.Outcomes.{shape_of}
use Rattle.square_rows.proofs.Weighted.{weighted_elsewhere, weighted_outside, weighted_here}
use Rattle.square_rows.proofs.combination.terms.Terms.share.Goals as goal

pub returns-then-e-row : goal.returns-then-e-row
returns-then-e-row g c =
    let L = g.met.F.Field.laws in
    let S = shape_of c.args.self.now.head.now in
    let k = c.args.self.now.combination.now in
    c.zero.ensures
    ∙ sym (⊎_elim (λ h. weighted_elsewhere L S k c.args.w c.args.e h) (λ h. weighted_outside L S k c.args.w c.args.e (omega (arith, h.1))) c.then-e-row.either)

pub returns : goal.returns
returns g c =
    let O = g.F.Field.ops in
    let S = shape_of c.args.self.now.head.now in
    let e = c.args.e in
    let here = weighted_here g.met.F.Field.laws S c.args.self.now.combination.now c.args.w e (omega arith) (omega arith) in
    cc
