use Rattle.quadratic.specs.Doubling.{norm_zero, norm_of_zero}
use Rattle.quadratic.proofs.quadratic.ops.QuadraticField.inverse.Goals as goal

pub returns : goal.returns
returns g c =
    let told = c.in_ok-i.ensures in
    (λ e. told.0 (let z = norm_of_zero g.met.F.Field.laws c.args.self e in cc), let i = told.1 in cc)

pub returns-in_err-i : goal.returns-in_err-i
returns-in_err-i g c =
    let told = c.in_err-i.ensures in
    rw c.from_residual.ensures (norm_zero g.met.F.Field.laws c.args.self (cc))
