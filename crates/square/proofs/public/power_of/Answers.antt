-- One factor more.
use Rattle.std.proofs.Common.{sym, ◌∙◌, add-one}
use Rattle.transform.proofs.Powers.{power_zero, power_suc}
use Rattle.square.proofs.public.power_of.Goals as goal

pub loop-init : goal.loop-init
loop-init g c = c.one-product.ensures ∙ sym (power_zero g.met.F.Field.laws c.args.x)

pub loop-preserved : goal.loop-preserved
loop-preserved g c =
    let L = g.met.F.Field.laws in
    let more = power_suc L c.args.x c.loop.counter in
    let order = L.ring.mul_comm c.loop.product c.args.x in
    rw add-one (cc)
