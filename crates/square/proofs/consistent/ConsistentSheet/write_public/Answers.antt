-- The coefficients are those of the public polynomial.
use Rattle.std.proofs.Common.{◌≡◌, ◌-◌, [], length, arith}
use Rattle.transform.specs.Polynomial.{Root}
use Rattle.transform.proofs.Whole.{theory}
use Rattle.sheet.specs.Shape.{k, log_of_n, n}
use Rattle.sheet.specs.Outcomes.{shape_of}
use Rattle.square.specs.Rows.{position}
use Rattle.square.specs.Polynomials.{ω}
use Rattle.square.proofs.Heads.{k_same, log_of_n_same, n_same, head_fits}
use Rattle.square.proofs.Published.{step, scale, public_repeated}
use Rattle.square.proofs.consistent.ConsistentSheet.write_public.Goals as goal

pub returns : goal.returns
returns g c =
    let O = g.F.Field.ops in
    let L = g.met.F.Field.laws in
    let s = c.args.self.now in
    let h = s.head.now in
    let S = shape_of h in
    let k_is : h.k ≡ k S = k_same h in
    let n_is : h.n ≡ n S = n_same h in
    let log_is : h.log_n ≡ log_of_n S = log_of_n_same h in
    let root : Root O (log_of_n S) (ω O S) = (theory L).roots (log_of_n S) (omega arith) in
    let step_is : c.power_of-step.result ≡ step L S (head_fits h) root = cc in
    let scale-is : c.power_of-scale.result ≡ scale L S (head_fits h) root = cc in
    let front : length c.split_at_mut-first.result.0.now ≡ k S = omega arith in
    let back : length c.split_at_mut-first.result.1.now ≡ n S - k S = omega arith in
    public_repeated L S (head_fits h) root (position O []) s.values.now c.write_first.new.out c.repeat_first.new.rest
    (rw (front, scale-is, step_is) at c.write_first.ensures) (rw back at c.repeat_first.ensures)
