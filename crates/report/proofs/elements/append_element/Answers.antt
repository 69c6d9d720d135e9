use Rattle.std.proofs.Common.{arith}
use Rattle.report.proofs.Coordinates.{width_few, element_start, element_step, element_end}
use Rattle.report.proofs.elements.append_element.Goals as goal

pub loop-c-init : goal.loop-c-init
loop-c-init g c = record { inside = omega arith; text = element_start _; short = omega arith }

pub append_coordinate-requires : goal.append_coordinate-requires
append_coordinate-requires g c =
    let v = c.in-Some.ensures.value in
    (omega (arith, v.0, c.loop-c.invariant.short, c.requires), omega (arith, v.1, g.met.F.TextField.small))

pub overflow_add-i : goal.overflow_add-i
overflow_add-i g c = omega (arith, c.in-Some.ensures.value.0, width_few g.F.FileField.width g.F.Field.ops.adicity g.met.F.TextField.narrow)

pub loop-c-preserved : goal.loop-c-preserved
loop-c-preserved g c =
    let v = c.in-Some.ensures.value in
    let whole = c.in-Some.ensures.complete c.args.x in
    record {
      inside = omega (arith, v.0);
      text = element_step (g.F.FileField.coordinates c.args.x) c.loop-c.i c.in-Some.c (omega (arith, v.0, whole)) v.2 c.loop-c.invariant.text c.append_coordinate.ensures.text;
      short = omega (arith, c.loop-c.invariant.short, c.append_coordinate.ensures.short);
    }

pub returns : goal.returns
returns g c =
    let whole = c.in_default.ensures.complete c.args.x in
    let past = c.in_default.ensures.value in
    record {
      text = element_end (g.F.FileField.coordinates c.args.x) c.loop-c.i (omega (arith, whole, past)) c.loop-c.invariant.text;
      short = omega (arith, c.loop-c.invariant.inside, c.loop-c.invariant.short);
    }
