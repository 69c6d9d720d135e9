-- A public row's left sum, by its number among the public rows.
use Rattle.std.proofs.Common.{[], sym, ◌∙◌, arith}
use Rattle.std.proofs.lemmas.List.{get_or_read}
use Rattle.transform.specs.Polynomial.{coefficient}
use Rattle.sheet.specs.Outcomes.{shape_of}
use Rattle.square.specs.Rows.{position}
use Rattle.square.proofs.Heads.{head_fits}
use Rattle.square.proofs.LeftSums.{left_plus, left_minus, left_none}
use Rattle.square.proofs.consistent.ConsistentSheet.public_sum.Goals as goal
use Rattle.square.proofs.consistent.ConsistentSheet.public_sum.Goals.{then-t-eq0, else-t-eq0}

pub returns-then-t-publics : goal.returns-then-t-publics
returns-then-t-publics g c =
    c.zero.ensures ∙ sym (left_none g.met.F.Field.laws _ (head_fits c.args.self.now.head.now) (position g.F.Field.ops []) _ c.args.t (omega arith))

pub returns : goal.returns
returns g c =
    let O = g.F.Field.ops in
    let L = g.met.F.Field.laws in
    let h = c.args.self.now.head.now in
    let vs = c.args.self.now.values.now in
    let read = get_or_read vs _ _ (omega arith) c.index-self-t.is O.zero in
    elim c.if-t-eq0.branch [
      | then-t-eq0 w ↦
          let one = get_or_read vs 0 _ (omega arith) w.index-self-0.is O.zero in
          let is = left_plus L (shape_of h) (head_fits h) (position O []) (coefficient O vs) c.args.t (omega arith) w.if-t-eq0.true in
          cc w.one-is
      | else-t-eq0 w ↦
          let one = get_or_read vs 0 _ (omega arith) w.index-self-0-else-t-eq0.is O.zero in
          let is = left_minus L (shape_of h) (head_fits h) (position O []) (coefficient O vs) c.args.t (omega arith) w.if-t-eq0.false in
          cc (w.one-is, w.neg-one.ensures)
    ]
