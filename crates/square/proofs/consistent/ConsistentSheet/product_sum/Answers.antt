-- A product row's left sum, by its number among the rows that are not public.
use Rattle.std.proofs.Common.{sym, ◌∙◌, arith}
use Rattle.transform.specs.Polynomial.{coefficient}
use Rattle.sheet.specs.Outcomes.{shape_of}
use Rattle.square.specs.Rows.{position}
use Rattle.square.proofs.Heads.{head_fits}
use Rattle.square.proofs.LeftSums.{left_difference, left_both, left_past}
use Rattle.square.proofs.consistent.ConsistentSheet.product_sum.Goals as goal

pub returns-then-x-rows : goal.returns-then-x-rows
returns-then-x-rows g c =
    let s = c.args.self.now in
    c.zero.ensures ∙ sym (left_past g.met.F.Field.laws _ (head_fits s.head.now) (position g.F.Field.ops s.used.now) _ c.args.x (omega arith))

pub returns-then-x-eq0 : goal.returns-then-x-eq0
returns-then-x-eq0 g c =
    let O = g.F.Field.ops in
    let s = c.args.self.now in
    let is = left_difference g.met.F.Field.laws (shape_of s.head.now) (head_fits s.head.now) (position O s.used.now) (coefficient O s.values.now) s.one c.args.x (omega arith) c.if-x-eq0.true in
    cc

pub returns-else-x-eq0 : goal.returns-else-x-eq0
returns-else-x-eq0 g c =
    let O = g.F.Field.ops in
    let s = c.args.self.now in
    let is = left_both g.met.F.Field.laws (shape_of s.head.now) (head_fits s.head.now) (position O s.used.now) (coefficient O s.values.now) s.one c.args.x (omega arith) c.if-x-eq0.false in
    cc
