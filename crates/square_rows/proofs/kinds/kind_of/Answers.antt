use Rattle.std.proofs.Common.{◌≡◌, ◌+◌, ◌-◌, ◌/◌, ◌%◌, ◌≢◌, sym, ap, ◌∙◌, div-add-mod', le-mul_of_pos_right, arith}
use Rattle.sheet.specs.Shape.{stride}
use Rattle.sheet.specs.Outcomes.{shape_of}
use Rattle.square.specs.Program.{public_kind, product_kind}
use Rattle.square.proofs.Heads.{head_fits}
use Rattle.square_rows.proofs.Places.{at_multiple, at_other}
use Rattle.square_rows.proofs.kinds.kind_of.Goals as goal

pub overflow_sub-r : goal.overflow_sub-r
overflow_sub-r c =
    let r = c.args.r in
    let s = c.stride_of-stride.result in
    omega (arith, div-add-mod' r s, le-mul_of_pos_right (r / s) c.stride_of-stride.ensures.some, c.if-r-stride-eq0.false)

pub returns-then-r-stride-eq0-clause-is : goal.returns-then-r-stride-eq0-clause-is
returns-then-r-stride-eq0-clause-is c =
    let h = c.args.head.now in
    let r = c.args.r in
    let s = c.stride_of-stride.ensures.is in
    let rest : r % stride (shape_of h) ≡ 0 = rw s at c.if-r-stride-eq0.true in
    c.kind_of_multiple.ensures.is ∙ ap (λ t. public_kind (shape_of h) (r / t)) s ∙ sym (at_multiple (shape_of h) (head_fits h) r rest)

pub returns-else-r-stride-eq0-clause-is : goal.returns-else-r-stride-eq0-clause-is
returns-else-r-stride-eq0-clause-is c =
    let h = c.args.head.now in
    let r = c.args.r in
    let s = c.stride_of-stride.ensures.is in
    let rest : r % stride (shape_of h) ≢ 0 = rw s at c.if-r-stride-eq0.false in
    c.kind_of_other.ensures.is ∙ ap (λ t. product_kind (shape_of h) (r - (r / t + 1))) s ∙ sym (at_other (shape_of h) (head_fits h) r rest)
