use Rattle.std.proofs.Common.{◌≡◌, ◌+◌, ◌*◌, [], ◌∷◌, length, arith}
use Rattle.report.specs.Text.{Appended}
use Rattle.report.proofs.Texts.{append_put, append_left}
use Rattle.report.proofs.Coordinates.{elements_start, elements_step, elements_end, one_more, next}
use Rattle.report.proofs.elements.append_elements.Goals as goal

pub loop-x-init : goal.loop-x-init
loop-x-init g c = record { text = elements_start _; short = omega arith }

pub append_element-requires : goal.append_element-requires
append_element-requires g c =
    let room = one_more (6 * g.F.FileField.width + 1) c.loop-x.x-index (length c.args.xs.now) c.loop-x-test.true in
    let space : Appended c.loop-x.out (32 ∷ []) c.put.new.self = append_put (omega (arith, c.loop-x.invariant.short, c.requires)) c.put.ensures in
    omega (arith, c.loop-x.invariant.short, c.requires, append_left space)

pub loop-x-preserved : goal.loop-x-preserved
loop-x-preserved g c =
    let room = one_more (6 * g.F.FileField.width + 1) c.loop-x.x-index (length c.args.xs.now) c.loop-x-test.true in
    let turn = next (6 * g.F.FileField.width + 1) c.loop-x.x-index in
    let space : Appended c.loop-x.out (32 ∷ []) c.put.new.self = append_put (omega (arith, c.loop-x.invariant.short, c.requires)) c.put.ensures in
    record {
      text = elements_step g.F.FileField.coordinates c.args.xs.now c.loop-x.x-index c.x-item.result c.loop-x-test.true c.x-item.is c.loop-x.invariant.text space c.append_element.ensures.text;
      short = omega (arith, c.loop-x.invariant.short, append_left space, c.append_element.ensures.short);
    }

pub returns : goal.returns
returns g c =
    let all : c.loop-x.x-index ≡ length c.args.xs.now = omega arith in
    record {
      text = elements_end g.F.FileField.coordinates c.args.xs.now c.loop-x.x-index c.loop-x-test.false c.loop-x.invariant.text;
      short = rw all at c.loop-x.invariant.short;
    }
