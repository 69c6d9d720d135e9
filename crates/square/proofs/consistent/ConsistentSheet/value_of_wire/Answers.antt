use Rattle.std.proofs.Common.{◌≡◌, ◌-◌, ◌*◌, [], sym, ◌∙◌, arith}
use Rattle.std.proofs.lemmas.List.{get_or_read}
use Rattle.transform.specs.Polynomial.{coefficient}
use Rattle.sheet.specs.Outcomes.{shape_of}
use Rattle.square.specs.Rows.{position}
use Rattle.square.proofs.Extended.{extended_own, extended_row}
use Rattle.square.proofs.Heads.{head_fits}
use Rattle.square.proofs.LeftSums.{extended_public}
use Rattle.square.proofs.consistent.ConsistentSheet.value_of_wire.Goals as goal

pub returns-then-w-wires : goal.returns-then-w-wires
returns-then-w-wires g c =
    let O = g.F.Field.ops in
    let vs = c.args.self.now.values.now in
    sym c.index-self-w.is ∙ get_or_read vs c.args.w _ (omega arith) c.index-self-w.is O.zero ∙ sym (extended_own O _ _ (coefficient O vs) c.args.w (omega arith))

pub returns-then-t-publics : goal.returns-then-t-publics
returns-then-t-publics g c =
    let O = g.F.Field.ops in
    let s = c.args.self.now in
    let h = s.head.now in
    let place : c.args.w - c.wires-wires.result ≡ c.args.w - h.wires = omega arith in
    let is = extended_public g.met.F.Field.laws (shape_of h) (head_fits h) (position O s.used.now) (position O []) (coefficient O s.values.now) c.args.w (omega arith) (omega arith) in
    cc

pub returns : goal.returns
returns g c =
    let O = g.F.Field.ops in
    let s = c.args.self.now in
    let h = s.head.now in
    let row : c.args.w - c.wires-wires.result - 2 * c.publics-publics.result ≡ c.args.w - h.wires - 2 * h.publics = omega arith in
    let is = extended_row O (shape_of h) (position O s.used.now) (coefficient O s.values.now) c.args.w (omega arith) (omega arith) in
    cc
