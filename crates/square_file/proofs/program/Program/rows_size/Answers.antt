use Rattle.std.proofs.Common.{◌≡◌, ◌+◌, ◌-◌, false, ◌&&◌, length, sym, ap, ◌∙◌, ap₂, arith}
use Rattle.sheet.specs.Shape.{n}
use Rattle.sheet.specs.Outcomes.{shape_of}
use Rattle.square.specs.Rows.{position}
use Rattle.square.proofs.Heads.{n_same}
use Rattle.square_file.specs.SquareFile.{plain_rows}
use Rattle.square_file.proofs.RowLists.{first_rows, no_rows, length_more, plain_none, plain_more, plain_fails}
use Rattle.square_file.proofs.program.Program.rows_size.Goals as goal

pub returns-in_err-size : goal.returns-in_err-size
returns-in_err-size g c =
    let O = g.F.Field.ops in
    let p = g.F.FileField.prime in
    let h = c.args.self.now.head.now in
    let S = shape_of h in
    let t = position O c.args.self.now.used.now in
    let r = c.loop-r.r in
    let fails : plain_rows O p S t (r + 1) ≡ false = plain_more O p S t r ∙ ap₂ ◌&&◌ c.loop-r.invariant.0 c.in_err-size.ensures in
    let place : r + 1 + (n S - (r + 1)) ≡ n S = omega (arith, n_same h, c.n-r-end.ensures.is, c.loop-r-test.true) in
    rw c.from_residual.ensures
    (ap (plain_rows O p S t) (sym place) ∙ plain_fails O p S t (n S - (r + 1)) (r + 1) fails)

pub loop-r-init : goal.loop-r-init
loop-r-init g c =
    let O = g.F.Field.ops in
    let p = g.F.FileField.prime in
    let S = shape_of c.args.self.now.head.now in
    let t = position O c.args.self.now.used.now in
    (plain_none O p S t, sym (ap length (no_rows O p S t)), omega arith)

pub loop-r-preserved : goal.loop-r-preserved
loop-r-preserved g c =
    let O = g.F.Field.ops in
    let p = g.F.FileField.prime in
    let S = shape_of c.args.self.now.head.now in
    let t = position O c.args.self.now.used.now in
    let r = c.loop-r.r in
    let row = c.in_ok-size.ensures in (
      plain_more O p S t r ∙ ap₂ ◌&&◌ c.loop-r.invariant.0 row.0,
      omega (arith, c.loop-r.invariant.1, row.1, length_more O p S t r),
      omega (arith, c.loop-r.invariant.2, row.2),
    )

pub returns : goal.returns
returns g c =
    let O = g.F.Field.ops in
    let p = g.F.FileField.prime in
    let h = c.args.self.now.head.now in
    let S = shape_of h in
    let t = position O c.args.self.now.used.now in
    let all : c.loop-r.r ≡ n S = omega (arith, n_same h, c.n-r-end.ensures.is, c.loop-r-test.false, c.loop-r.auto.r-end) in (
      ap (plain_rows O p S t) (sym all) ∙ c.loop-r.invariant.0,
      c.loop-r.invariant.1 ∙ ap (λ r. length (first_rows O p S t r)) all,
      omega (arith, c.loop-r.invariant.2, all, n_same h, h.n_most),
    )
