use Rattle.std.proofs.Common.{◌≤◌, length, sym, ◌∙◌, rules}
use Rattle.transform.proofs.Roots.{chosen_root, root≢zero, ones≢zero}
use Rattle.transform.proofs.Polynomials.{chosen_take}
use Rattle.transform.proofs.interpolate.interpolate.Goals as goal

pub reciprocal-step-requires : goal.reciprocal-step-requires
reciprocal-step-requires g c = λ z.
    let laws = g.met.F.Field.laws in
    let e = c.in_ok-log.log in
    let root = c.in_ok-root.ensures in
    let fits : e ≤ g.F.Field.ops.adicity = search rules in
    root≢zero laws e c.in_ok-root.root (rw root.1 (chosen_root laws e fits)) z

pub reciprocal-scale-requires : goal.reciprocal-scale-requires
reciprocal-scale-requires g c = λ z. ones≢zero g.met.F.Field.laws c.in_ok-log.log (sym c.power_of_two.ensures ∙ z)

pub returns : goal.returns
returns g c =
    let e = c.in_ok-log.log in
    let lengths = c.in_ok-log.ensures.1 in
    let root = c.in_ok-root.ensures in
    let fits : e ≤ g.F.Field.ops.adicity = search rules in (
      search rules,
      chosen_take g.met.F.Field.laws e c.in_ok-root.root c.power_of_two.result c.reciprocal-step.result c.reciprocal-scale.result
          c.args.values.now c.new.result.coefficients.now c.fill_coefficients.new.out (length c.args.out.now)
          fits lengths.0 lengths.1 root.1 c.power_of_two.ensures c.reciprocal-step.ensures c.reciprocal-scale.ensures
          c.new.ensures c.fill_coefficients.ensures,
    )
