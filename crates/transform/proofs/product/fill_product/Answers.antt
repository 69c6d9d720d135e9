use Rattle.std.proofs.Common.{◌≡◌, ℕ, suc, ◌+◌, ◌-◌, ◌<◌, length, ◌∙◌, arith}
use Rattle.std.proofs.lemmas.List.Edits.{fill_by_more}
use Rattle.transform.specs.Outcomes.{product_length}
use Rattle.transform.specs.Polynomial.{product_at}
use Rattle.transform.proofs.Tables.{is_table}
use Rattle.transform.proofs.Windows.{product_window}
use Rattle.transform.proofs.product.fill_product.Goals as goal

-- both factors reach the coefficient
within : (n m e : ℕ) → e < product_length n m → suc e < n + m
within ℕ.zero m e h = absurd (omega arith)
within (suc n) ℕ.zero e h = absurd (omega arith)
within (suc n) (suc m) e h = omega arith

pub loop-e-preserved : goal.loop-e-preserved
loop-e-preserved g c =
    let O = g.F.Field.ops in
    let u = c.args.u.now in
    let v = c.args.v.now in
    let e = c.loop-e.e in
    let first = c.saturating_sub-first.result in
    let end = c.min-end.result in
    let both : suc e < length u + length v = within (length u) (length v) e (omega (arith, c.requires)) in
    let written : c.middle.result ≡ product_at O u v e =
    c.middle.ensures
    ∙ product_window g.met.F.Field.laws u v e first end (e + 1 - end) (e + 1 - first)
    (omega arith) (omega arith) (omega arith) (omega arith) (omega arith) (λ i h. omega arith) (λ i h l. omega arith)
    in
    rw written (fill_by_more (product_at O u v) c.loop-e.out e O.zero (omega arith) c.loop-e.invariant)

pub returns : goal.returns
returns g c = is_table g.F.Field.ops.zero c.loop-e.out _ _ c.loop-e.auto.out (λ k h. c.loop-e.invariant k (omega arith))
