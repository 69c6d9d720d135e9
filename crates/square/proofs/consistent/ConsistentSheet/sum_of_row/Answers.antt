use Rattle.std.proofs.Common.{◌≢◌, ◌⊎◌, sym, ap, ◌∙◌, inl, inr, arith}
use Rattle.std.proofs.lemmas.List.{take_all, get_or_read}
use Rattle.transform.specs.Polynomial.{coefficient}
use Rattle.sheet.specs.Matrix.{number_of}
use Rattle.sheet.specs.Outcomes.{shape_of}
use Rattle.square.proofs.Entries.{pass, pass_none, pass_here, pass_elsewhere, dot_pass, wire_at}
use Rattle.square.proofs.consistent.ConsistentSheet.sum_of_row.Goals as goal
use Rattle.square.proofs.consistent.ConsistentSheet.sum_of_row.Goals.{then-e-number+then-e-row, else-e-number, else-e-number-via-then-e-number+else-e-row, else-e-number-via-else-e-number}

pub bounds-self-e : goal.bounds-self-e
bounds-self-e g c =
    let s = c.args.self.now in
    let inside = wire_at (shape_of s.head.now) s.used.now c.loop-e.e-index c.e-item.result s.inside c.loop-e-test.true c.e-item.is in
    omega (arith, inside)

pub loop-e-init : goal.loop-e-init
loop-e-init g c =
    c.zero-sum.ensures ∙ sym (pass_none g.met.F.Field.laws (number_of c.args.matrix) c.args.row (coefficient g.F.Field.ops c.args.self.now.values.now))

pub loop-e-preserved : goal.loop-e-preserved
loop-e-preserved g c =
    let L = g.met.F.Field.laws in
    let s = c.args.self.now in
    let vs = s.values.now in
    let z = coefficient g.F.Field.ops vs in
    let m = number_of c.args.matrix in
    let e = c.e-item.result in
    let inside = wire_at (shape_of s.head.now) s.used.now c.loop-e.e-index e s.inside c.loop-e-test.true c.e-item.is in
    elim c.if-e-number.branch [
      | then-e-number+then-e-row w ↦
          let read = get_or_read vs e.wire _ (omega arith) w.index-self-e.is g.F.Field.ops.zero in
          let more = pass_here L m c.args.row z s.used.now c.loop-e.e-index e c.loop-e-test.true c.e-item.is (w.if-e-number.true ∙ c.number.ensures) w.if-e-row.true in
          cc (w.sum-is, w.add-sum.ensures, w.mul.ensures)
      | else-e-number w ↦
          let other : (e.matrix ≢ m) ⊎ (e.row ≢ c.args.row) =
          elim w.else-e-number.branch [
            | else-e-number-via-then-e-number+else-e-row w' ↦ inr w'.if-e-row.false
            | else-e-number-via-else-e-number w' ↦ inl (λ h. w'.if-e-number.false (h ∙ sym c.number.ensures))
          ]
          in
          let same = pass_elsewhere L m c.args.row z s.used.now c.loop-e.e-index e c.loop-e-test.true c.e-item.is other in
          cc (w.sum-is)
    ]

pub returns : goal.returns
returns g c =
    let O = g.F.Field.ops in
    let s = c.args.self.now in
    let z = coefficient O s.values.now in
    let m = number_of c.args.matrix in
    c.loop-e.invariant
    ∙ ap (pass O m c.args.row z) (take_all c.loop-e.e-index s.used.now c.loop-e-test.false)
    ∙ sym (dot_pass g.met.F.Field.laws m c.args.row z (shape_of s.head.now) s.used.now s.inside)
