use Rattle.std.proofs.Common.{◌++◌, length, sym, ap, ◌∙◌, append_assoc}
use Rattle.sheet.specs.Shape.{columns}
use Rattle.square_rows.proofs.TermLists.{terms_ext}
use Rattle.writing.proofs.Writers.{fills_both, fills_same, fills_again}
use Rattle.constraints.specs.Circuit.{list_bytes}
use Rattle.square_file.specs.Terms.{items}
use Rattle.square_file.specs.SquareFile.{left_terms, right_terms}
use Rattle.square_file.specs.Programs.{shape, entries}
use Rattle.square_file.proofs.RowLists.{row_parts}
use Rattle.square_file.proofs.program.Program.put_row.Goals as goal

pub returns : goal.returns
returns g c =
    let O = g.F.Field.ops in
    let p = g.F.FileField.prime in
    let S = shape c.args.self.now in
    let t = entries O c.args.self.now in
    let left = ap (λ ts. list_bytes (items O p ts)) (terms_ext O (columns S) 0 _ _ (c.left-left.ensures t)) in
    let right = ap (λ ts. list_bytes (items O p ts)) (terms_ext O (columns S) 0 _ _ (c.right-right.ensures t)) in
    let w = c.args.w.now in
    let w1 = c.put_list.new.w in
    let w2 = c.put_again.new.self in
    let w3 = c.put_list-2.new.w in
    let a = list_bytes (items O p (left_terms O p S t c.args.r)) in
    let b = list_bytes (items O p (right_terms O p S t c.args.r)) in
    let twice = fills_again w w1 w2 a (length c.written-left_at.result.now) (ap length c.written-left_at.ensures) (fills_same w w1 _ _ left c.put_list.ensures) c.put_again.ensures.0 in
    fills_same w w3 ((a ++ a) ++ b) _ (append_assoc a a b ∙ sym (row_parts O p S t c.args.r)) (fills_both w w2 w3 (a ++ a) b twice (fills_same w2 w3 _ _ right c.put_list-2.ensures))
