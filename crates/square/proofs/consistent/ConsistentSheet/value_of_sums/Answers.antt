-- Horner's rule.
use Rattle.std.proofs.Common.{ℕ, ◌*◌, [], sym, ◌∙◌, arith}
use Rattle.transform.specs.Polynomial.{coefficient}
use Rattle.sheet.specs.Shape.{k, stride}
use Rattle.sheet.specs.Outcomes.{shape_of}
use Rattle.square.specs.Rows.{position}
use Rattle.square.specs.Program.{u_row}
use Rattle.square.proofs.Horner.{horner_none, horner_next, horner_all}
use Rattle.square.proofs.consistent.ConsistentSheet.value_of_sums.Goals as goal

pub loop-t-init : goal.loop-t-init
loop-t-init g c =
    let O = g.F.Field.ops in
    let h = c.args.self.now.head.now in
    let y : ℕ → g.row.F.Denot = λ t. u_row O (shape_of h) (position O []) (coefficient O c.args.self.now.values.now) (t * stride (shape_of h)) in
    c.zero-value.ensures ∙ sym (horner_none g.met.F.Field.laws y c.args.x (k (shape_of h)) c.k-t.result (omega (arith, h.k_is)))

pub loop-t-preserved : goal.loop-t-preserved
loop-t-preserved g c =
    let O = g.F.Field.ops in
    let h = c.args.self.now.head.now in
    let y : ℕ → g.row.F.Denot = λ t. u_row O (shape_of h) (position O []) (coefficient O c.args.self.now.values.now) (t * stride (shape_of h)) in
    let next = horner_next g.met.F.Field.laws y c.args.x (k (shape_of h)) c.loop-t.t (omega arith) (omega (arith, h.k_is)) in
    let so_far = c.loop-t.invariant in
    cc

pub returns : goal.returns
returns g c =
    let O = g.F.Field.ops in
    let h = c.args.self.now.head.now in
    let y : ℕ → g.row.F.Denot = λ t. u_row O (shape_of h) (position O []) (coefficient O c.args.self.now.values.now) (t * stride (shape_of h)) in
    c.loop-t.invariant ∙ horner_all g.met.F.Field.laws y c.args.x (k (shape_of h)) c.loop-t.t c.loop-t-test.false
