use Rattle.sapsheet_c.proofs.Written.{numbered_none, numbered_more, numbered_all}
use Rattle.sapsheet_c.proofs.numbers.write_numbers.Goals as goal

pub loop-x-init : goal.loop-x-init
loop-x-init g c = numbered_none g.F.Field.ops g.F.FileField.prime c.args.out.now

pub loop-x-preserved : goal.loop-x-preserved
loop-x-preserved g c =
    numbered_more g.F.Field.ops g.F.FileField.prime c.args.xs.now c.loop-x.x-index c.x-item.result c.number_of.result c.args.out.now c.loop-x.out c.put_long.new.self
    c.loop-x-test.true c.x-item.is c.number_of.ensures.0 c.number_of.ensures.1 c.requires c.loop-x.invariant c.put_long.ensures

pub returns : goal.returns
returns g c =
    numbered_all g.F.Field.ops g.F.FileField.prime c.args.xs.now c.loop-x.x-index c.args.out.now c.loop-x.out c.loop-x-test.false c.loop-x.invariant
