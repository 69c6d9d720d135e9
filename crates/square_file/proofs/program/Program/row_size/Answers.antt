use Rattle.std.proofs.Common.{◌≡◌, ◌&&◌, length, sym, ap, ◌∙◌, ap₂, arith}
use Rattle.sheet.specs.Shape.{columns}
use Rattle.sheet.specs.Outcomes.{shape_of}
use Rattle.square.specs.Rows.{position}
use Rattle.square_file.specs.Terms.{all_plain}
use Rattle.square_file.specs.SquareFile.{left_terms, right_terms}
use Rattle.square_rows.proofs.TermLists.{terms_ext}
use Rattle.square_file.proofs.RowLists.{length_row}
use Rattle.square_file.proofs.program.Program.row_size.Goals as goal

pub returns-in_err-left : goal.returns-in_err-left
returns-in_err-left g c =
    let O = g.F.Field.ops in
    let p = g.F.FileField.prime in
    let S = shape_of c.args.self.now.head.now in
    let t = position O c.args.self.now.used.now in
    let same = terms_ext O (columns S) 0 _ _ (c.left.ensures t) in
    rw c.from_residual.ensures
    (ap (λ b. b && all_plain O p (right_terms O p S t c.args.r)) (ap (all_plain O p) (sym same) ∙ c.in_err-left.ensures))

pub returns-in_err-right : goal.returns-in_err-right
returns-in_err-right g c =
    let O = g.F.Field.ops in
    let p = g.F.FileField.prime in
    let S = shape_of c.args.self.now.head.now in
    let t = position O c.args.self.now.used.now in
    let same = terms_ext O (columns S) 0 _ _ (c.left.ensures t) in
    let other = terms_ext O (columns S) 0 _ _ (c.right.ensures t) in
    rw c.from_residual-in_err-right.ensures
    (ap₂ ◌&&◌ (ap (all_plain O p) (sym same) ∙ c.in_ok-left.ensures.0) (ap (all_plain O p) (sym other) ∙ c.in_err-right.ensures))

pub returns : goal.returns
returns g c =
    let O = g.F.Field.ops in
    let p = g.F.FileField.prime in
    let h = c.args.self.now.head.now in
    let S = shape_of h in
    let t = position O c.args.self.now.used.now in
    let r = c.args.r in
    let same = terms_ext O (columns S) 0 _ _ (c.left.ensures t) in
    let other = terms_ext O (columns S) 0 _ _ (c.right.ensures t) in
    let left = c.in_ok-left.ensures in
    let right = c.in_ok-right.ensures in
    let a : c.in_ok-left.left ≡ length (left_terms O p S t r) = left.1 ∙ ap length same in
    let b : c.in_ok-right.right ≡ length (right_terms O p S t r) = right.1 ∙ ap length other in (
      ap₂ ◌&&◌ (ap (all_plain O p) (sym same) ∙ left.0) (ap (all_plain O p) (sym other) ∙ right.0),
      omega (arith, a, b, length_row O p S t r),
      omega (arith, left.2, right.2, h.wires_most, h.publics_most, h.rows_most),
    )
