-- Nothing is refused, and the upper coefficients of u² are the quotient, since every row holds.
use Rattle.std.proofs.Common.{◌≡◌, subst, arith}
use Rattle.transform.specs.Outcomes.{UpperSquared}
use Rattle.transform.specs.Polynomial.{coefficient}
use Rattle.transform.proofs.Whole.{theory}
use Rattle.sheet.specs.Shape.{log_of_n}
use Rattle.sheet.specs.Outcomes.{shape_of}
use Rattle.square.specs.Rows.{position}
use Rattle.square.proofs.Heads.{log_of_n_same, n_same, head_fits}
use Rattle.square.proofs.Divided.{interpolate_none, divides}
use Rattle.square.proofs.consistent.ConsistentSheet.divide.Goals as goal

pub returns-in_err-interpolate : goal.returns-in_err-interpolate
returns-in_err-interpolate g c =
    let h = c.args.self.now.head.now in
    let log_is : h.log_n ≡ log_of_n (shape_of h) = log_of_n_same h in
    let none = interpolate_none g.met.F.Field.laws (log_of_n (shape_of h)) c.write_left_sums.new.sums c.split_at_mut-u.result.0.now (omega (arith, n_same h)) (omega (arith, n_same h)) (omega arith) in
    let refused = c.in_err-interpolate.ensures in
    absurd (cc)

pub returns : goal.returns
returns g c =
    let O = g.F.Field.ops in
    let L = g.met.F.Field.laws in
    let s = c.args.self.now in
    let S = shape_of s.head.now in
    let log_is : s.head.now.log_n ≡ log_of_n S = log_of_n_same s.head.now in
    divides L S (head_fits s.head.now) ((theory L).roots (log_of_n S) (omega arith)) (position O s.used.now) (coefficient O s.values.now) s.one c.requires.hold
    c.write_left_sums.new.sums c.interpolate.new.out c.args.out.now c.square_upper.new.out c.square_upper.result
    c.write_left_sums.ensures (omega (arith, n_same s.head.now)) c.in_ok-interpolate.ensures.1
    (subst (λ u. UpperSquared O u c.args.out.now c.square_upper.new.out c.square_upper.result) c.new.ensures c.square_upper.ensures)
