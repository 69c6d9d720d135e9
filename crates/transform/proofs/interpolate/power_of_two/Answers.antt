use Rattle.std.proofs.Common.{◌≡◌, sym, ◌∙◌, add-one, arith}
use Rattle.transform.proofs.Roots.{ones_one, ones_double}
use Rattle.transform.proofs.interpolate.power_of_two.Goals as goal

pub loop-init : goal.loop-init
loop-init g c = c.one-n.ensures ∙ sym (ones_one g.met.F.Field.laws)

pub loop-preserved : goal.loop-preserved
loop-preserved g c =
    let double = ones_double g.met.F.Field.laws c.loop.counter in
    rw add-one (cc)

pub returns : goal.returns
returns g c = let all : c.loop.counter ≡ c.args.e = omega arith in cc
