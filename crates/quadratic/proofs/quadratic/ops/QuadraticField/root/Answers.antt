use Rattle.std.proofs.Common.{arith}
use Rattle.quadratic.specs.Doubling.{root_below, root_θ}
use Rattle.quadratic.proofs.quadratic.ops.QuadraticField.root.Goals as goal

pub returns-in-Some : goal.returns-in-Some
returns-in-Some g c =
    let told = c.in-Some.ensures in
    let made = root_below g.met.F.Field.laws c.args.e told.0 in
    (omega arith, let w = told.1 in cc)

pub returns : goal.returns
returns g c =
    let above = c.in_default.ensures in
    let before = c.in_ok-checked_sub.ensures in
    let below = c.in_ok-root.ensures.0 in
    let made = root_θ g.met.F.Field.laws c.args.e (omega arith) in
    (omega arith, cc)
