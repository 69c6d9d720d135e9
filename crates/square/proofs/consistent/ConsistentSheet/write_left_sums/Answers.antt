-- One sum more.
use Rattle.std.proofs.Common.{◌≡◌, length, arith}
use Rattle.std.proofs.lemmas.List.Edits.{fill_by_more}
use Rattle.transform.proofs.Tables.{is_table}
use Rattle.transform.specs.Polynomial.{coefficient}
use Rattle.sheet.specs.Shape.{n}
use Rattle.sheet.specs.Outcomes.{shape_of}
use Rattle.square.specs.Rows.{position}
use Rattle.square.specs.Program.{u_row, extended}
use Rattle.square.proofs.Heads.{n_same}
use Rattle.square.proofs.consistent.ConsistentSheet.write_left_sums.Goals as goal

pub loop-r-preserved : goal.loop-r-preserved
loop-r-preserved g c =
    let O = g.F.Field.ops in
    let s = c.args.self.now in
    let S = shape_of s.head.now in
    let y = position O s.used.now in
    rw c.left_sum.ensures
    (fill_by_more (u_row O S y (coefficient O (extended O S y (coefficient O s.values.now)))) c.loop-r.sums c.loop-r.r O.zero (omega arith) c.loop-r.invariant)

pub returns : goal.returns
returns g c =
    let h = c.args.self.now.head.now in
    let long : length c.loop-r.sums ≡ n (shape_of h) = omega (arith, n_same h) in
    is_table g.F.Field.ops.zero c.loop-r.sums (n (shape_of h)) _ long (λ i k. c.loop-r.invariant i (omega arith))
