-- One coefficient more.
use Rattle.std.proofs.Common.{◌≡◌, ℕ, ◌*◌, [], sym, ◌∙◌, add-one, arith, below_none}
use Rattle.std.proofs.lemmas.List.Edits.{fill_by_more}
use Rattle.field.specs.Operations.{power}
use Rattle.transform.specs.Polynomial.{table, coefficient, value_at}
use Rattle.transform.proofs.Powers.{power_zero, power_suc}
use Rattle.transform.proofs.Tables.{is_table}
use Rattle.sheet.specs.Shape.{k, stride}
use Rattle.sheet.specs.Outcomes.{shape_of}
use Rattle.square.specs.Rows.{position}
use Rattle.square.specs.Program.{u_row}
use Rattle.square.proofs.consistent.ConsistentSheet.write_first.Goals as goal

pub loop-coefficient-init : goal.loop-coefficient-init
loop-coefficient-init g c = (c.one-point.ensures ∙ sym (power_zero g.met.F.Field.laws c.args.step), below_none _)

pub loop-coefficient-preserved : goal.loop-coefficient-preserved
loop-coefficient-preserved g c =
    let O = g.F.Field.ops in
    let laws = g.met.F.Field.laws in
    let L = c.loop-coefficient in
    let step = c.args.step in
    let s = c.args.self.now in
    let S = shape_of s.head.now in
    let sums = table (k S) (λ t. u_row O S (position O []) (coefficient O s.values.now) (t * stride S)) in
    let coefficient : ℕ → g.row.F.Denot = λ j. O.mul c.args.scale (value_at O sums (power O step j)) in
    let next = laws.ring.mul_comm L.point step in
    let more = power_suc laws step L.coefficient-index in
    let written : c.mul.result ≡ coefficient L.coefficient-index = cc in
    (rw add-one (cc), rw written (fill_by_more coefficient L.out L.coefficient-index O.zero (omega arith) L.invariant.1))

pub returns : goal.returns
returns g c = is_table g.F.Field.ops.zero c.loop-coefficient.out _ _ c.loop-coefficient.auto.out (λ j h. c.loop-coefficient.invariant.1 j (omega arith))
