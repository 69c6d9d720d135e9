use Rattle.std.proofs.Common.{◌≡◌, ◌+◌, length, ◌∙◌, arith}
use Rattle.std.proofs.lemmas.List.Edits.{fill_by_more}
use Rattle.transform.specs.Polynomial.{product_at}
use Rattle.transform.proofs.Tables.{is_table}
use Rattle.transform.proofs.Windows.{product_window}
use Rattle.transform.proofs.product.fill_upper_square.Goals as goal

pub loop-j-preserved : goal.loop-j-preserved
loop-j-preserved g c =
    let O = g.F.Field.ops in
    let u = c.args.u.now in
    let n = length u in
    let j = c.loop-j.j in
    let written : c.middle.result ≡ product_at O u u (n + j) =
    c.middle.ensures
    ∙ product_window g.met.F.Field.laws u u (n + j) (j + 1) n (j + 1) n
    (omega arith) (omega arith) (omega arith) (omega arith) (omega arith) (λ i h. omega arith) (λ i h l. omega arith)
    in
    rw written (fill_by_more (λ k. product_at O u u (n + k)) c.loop-j.out j O.zero (omega arith) c.loop-j.invariant)

pub returns : goal.returns
returns g c = is_table g.F.Field.ops.zero c.loop-j.out _ _ c.loop-j.auto.out (λ k h. c.loop-j.invariant k (omega arith))
