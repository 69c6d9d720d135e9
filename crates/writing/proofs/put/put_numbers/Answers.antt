use Rattle.std.proofs.Common.{◌+◌, ◌*◌, ◌≤◌, length, take, sym, ap, ◌∙◌, arith}
use Rattle.std.proofs.lemmas.List.{take_all}
use Rattle.frames.specs.Little.{little}
use Rattle.writing.specs.Put.{Put}
use Rattle.writing.specs.Plain.{numbered, number_bytes}
use Rattle.writing.proofs.Littles.{little_eight}
use Rattle.writing.proofs.Writers.{put_none, put_same, put_both}
use Rattle.writing.proofs.NumberBytes.{no_numbers, length_front, numbers_more}
use Rattle.writing.proofs.put.put_numbers.Goals as goal

pub loop-i-init : goal.loop-i-init
loop-i-init g c = put_same _ _ _ _ c.args.at (sym (no_numbers g.F.Field.ops g.F.FileField.prime)) (put_none c.args.out.now c.args.at)

pub loop-i-preserved : goal.loop-i-preserved
loop-i-preserved g c =
    let O = g.F.Field.ops in
    let p = g.F.FileField.prime in
    let vs = c.args.values.now in
    let i = c.loop-i.i in
    let x = c.index-values-i.result in
    let o = c.args.out.now in
    let h : i ≤ length vs = omega arith in
    let word = c.to_le_bytes.ensures ∙ little_eight c.number_of.result ∙ ap (little 8) c.number_of.ensures in
    let last : Put c.loop-i.out (c.args.at + 8 * i) (little 8 (numbered O p x)) c.put_inside.new.out = put_same _ _ _ _ _ word c.put_inside.ensures in
    let both = put_both o c.loop-i.out c.put_inside.new.out (number_bytes O p (take i vs)) (little 8 (numbered O p x)) c.args.at (8 * i)
    (length_front O p vs i h) (omega arith) c.loop-i.invariant last in
    put_same o _ _ _ c.args.at (sym (numbers_more O p vs i x c.loop-i-test.true c.index-values-i.is)) both

pub returns : goal.returns
returns g c =
    let e = take_all c.loop-i.i c.args.values.now c.loop-i-test.false in
    put_same c.args.out.now _ _ _ c.args.at (ap (number_bytes g.F.Field.ops g.F.FileField.prime) e) c.loop-i.invariant
