use Rattle.std.proofs.Common.{◌≡◌, ℕ, sym, ◌∙◌, add-one, arith, below_none}
use Rattle.std.proofs.lemmas.List.Edits.{fill_by_more}
use Rattle.field.specs.Operations.{power}
use Rattle.transform.specs.Polynomial.{value_at}
use Rattle.transform.proofs.Powers.{power_zero, power_suc}
use Rattle.transform.proofs.Tables.{is_table}
use Rattle.transform.proofs.interpolate.fill_coefficients.Goals as goal

pub loop-coefficient-init : goal.loop-coefficient-init
loop-coefficient-init g c = (c.one-point.ensures ∙ sym (power_zero g.met.F.Field.laws c.args.step), below_none _)

pub loop-coefficient-preserved : goal.loop-coefficient-preserved
loop-coefficient-preserved g c =
    let laws = g.met.F.Field.laws in
    let O = g.F.Field.ops in
    let L = c.loop-coefficient in
    let step = c.args.step in
    let coefficient : ℕ → g.row.F.Denot = λ j. O.mul c.args.scale (value_at O c.args.values.coefficients.now (power O step j)) in
    let next = laws.ring.mul_comm L.point step in
    let suc = power_suc laws step L.coefficient-index in
    let written : c.mul.result ≡ coefficient L.coefficient-index = cc in
    (rw add-one (cc), rw written (fill_by_more coefficient L.out L.coefficient-index O.zero (omega arith) L.invariant.1))

pub returns : goal.returns
returns g c = is_table g.F.Field.ops.zero c.loop-coefficient.out _ _ c.loop-coefficient.auto.out (λ j h. c.loop-coefficient.invariant.1 j (omega arith))
