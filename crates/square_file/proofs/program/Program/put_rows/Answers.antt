use Rattle.std.proofs.Common.{◌≡◌, sym, ap, arith}
use Rattle.sheet.specs.Shape.{n}
use Rattle.square.proofs.Heads.{n_same}
use Rattle.writing.proofs.Writers.{fills_none, fills_both, fills_same}
use Rattle.square_file.specs.Programs.{shape, entries}
use Rattle.square_file.proofs.RowLists.{first_rows, no_rows, rows_more}
use Rattle.square_file.proofs.program.Program.put_rows.Goals as goal

pub loop-r-init : goal.loop-r-init
loop-r-init g c =
    let O = g.F.Field.ops in
    let w = c.args.w.now in
    fills_same w w _ _ (sym (no_rows O g.F.FileField.prime (shape c.args.self.now) (entries O c.args.self.now))) (fills_none w)

pub loop-r-preserved : goal.loop-r-preserved
loop-r-preserved g c =
    let O = g.F.Field.ops in
    let w = c.args.w.now in
    let z = c.put_row.new.w in
    fills_same w z _ _ (sym (rows_more O g.F.FileField.prime (shape c.args.self.now) (entries O c.args.self.now) c.loop-r.r))
    (fills_both w c.loop-r.w z _ _ c.loop-r.invariant c.put_row.ensures)

pub returns : goal.returns
returns g c =
    let O = g.F.Field.ops in
    let P = c.args.self.now in
    let all : c.loop-r.r ≡ n (shape P) = omega (arith, n_same P.head.now, c.n-r-end.ensures.is, c.loop-r-test.false, c.loop-r.auto.r-end) in
    fills_same c.args.w.now c.loop-r.w _ _ (ap (first_rows O g.F.FileField.prime (shape P) (entries O P)) all) c.loop-r.invariant
