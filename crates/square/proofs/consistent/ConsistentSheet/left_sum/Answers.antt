-- A row is public, or known by its number among the others.
use Rattle.std.proofs.Common.{◌≡◌, ◌/◌, ◌%◌, [], div-add-mod', le-mul_of_pos_right, arith}
use Rattle.transform.specs.Polynomial.{coefficient}
use Rattle.sheet.specs.Shape.{stride}
use Rattle.sheet.specs.Outcomes.{shape_of}
use Rattle.square.specs.Rows.{position}
use Rattle.square.proofs.Heads.{head_fits}
use Rattle.square.proofs.LeftSums.{left_public, left_other}
use Rattle.square.proofs.consistent.ConsistentSheet.left_sum.Goals as goal

pub overflow_sub-r : goal.overflow_sub-r
overflow_sub-r g c =
    let r = c.args.r in
    let s = c.stride_of-stride.result in
    omega (arith, div-add-mod' r s, le-mul_of_pos_right (r / s) c.stride_of-stride.ensures.some, c.if-r-stride-eq0.false)

pub returns-then-r-stride-eq0 : goal.returns-then-r-stride-eq0
returns-then-r-stride-eq0 g c =
    let O = g.F.Field.ops in
    let s = c.args.self.now in
    let r = c.args.r in
    let rest : r % stride (shape_of s.head.now) ≡ 0 = rw c.stride_of-stride.ensures.is at c.if-r-stride-eq0.true in
    let is = left_public g.met.F.Field.laws (shape_of s.head.now) (head_fits s.head.now) (position O s.used.now) (coefficient O s.values.now) (position O []) r rest in
    cc

pub returns-else-r-stride-eq0 : goal.returns-else-r-stride-eq0
returns-else-r-stride-eq0 g c =
    let O = g.F.Field.ops in
    let s = c.args.self.now in
    let r = c.args.r in
    let is = left_other g.met.F.Field.laws (shape_of s.head.now) (head_fits s.head.now) (position O s.used.now) (coefficient O s.values.now) r (rw c.stride_of-stride.ensures.is at c.if-r-stride-eq0.false) in
    cc
