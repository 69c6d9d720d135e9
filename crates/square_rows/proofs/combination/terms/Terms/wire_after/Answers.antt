use Rattle.std.proofs.Common.{[], ◌∷◌, sym, ap, ◌∙◌, arith}
use Rattle.std.proofs.lemmas.List.{take_all}
use Rattle.sheet.specs.Outcomes.{shape_of}
use Rattle.square.specs.Rows.{position}
use Rattle.square_rows.specs.Combined.{weighted, combined}
use Rattle.square_rows.proofs.Weighted.{own_none, combined_more}
use Rattle.square_rows.proofs.combination.terms.Terms.wire_after.Goals as goal

pub loop-e-init : goal.loop-e-init
loop-e-init g c = (
  omega (arith, c.wire_from-first.ensures.within, c.wire_from.ensures.within),
  omega (arith, c.wire_from-first.ensures.within, c.wire_from.ensures.within, c.columns-stop.ensures.is),
  λ w a b. own_none g.met.F.Field.laws (shape_of c.args.self.now.head.now) c.args.self.now.combination.now w (c.wire_from-first.ensures.passed w a (omega arith)) (c.wire_from.ensures.passed w a (omega arith)),
)

pub loop-e-preserved : goal.loop-e-preserved
loop-e-preserved g c =
    let O = g.F.Field.ops in
    let S = shape_of c.args.self.now.head.now in
    let k = c.args.self.now.combination.now in (
      omega arith,
      omega arith,
      λ w a b.
          combined_more g.met.F.Field.laws S k w c.args.self.now.used.now c.loop-e.e-index c.e-item.result c.loop-e-test.true
          (c.loop-e.invariant.2 w a (omega arith))
          (ap (λ e. weighted O S (position O (e ∷ [])) k w) (sym c.e-item.is) ∙ c.entry_from.ensures.passed w a (omega arith)),
    )

pub returns : goal.returns
returns g c =
    let O = g.F.Field.ops in
    record {
      within = (c.loop-e.invariant.0, c.loop-e.invariant.1);
      passed = λ w a b.
          ap (λ es. combined O (shape_of c.args.self.now.head.now) (position O es) c.args.self.now.combination.now w) (sym (take_all c.loop-e.e-index c.args.self.now.used.now c.loop-e-test.false))
          ∙ c.loop-e.invariant.2 w a b;
    }
