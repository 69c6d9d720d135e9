use Rattle.std.proofs.Common.{◌≡◌, sym, ap, arith}
use Rattle.writing.proofs.Writers.{fills_none, fills_both, fills_same}
use Rattle.square_file.specs.SquareFile.{label_bytes}
use Rattle.square_file.proofs.Labels.{no_labels, labels_more}
use Rattle.square_file.proofs.bytes.put_labels.Goals as goal

pub loop-label-init : goal.loop-label-init
loop-label-init c = fills_same c.args.w.now _ _ _ (sym no_labels) (fills_none c.args.w.now)

pub loop-label-preserved : goal.loop-label-preserved
loop-label-preserved c =
    fills_same c.args.w.now c.put_long.new.self _ _ (sym (labels_more c.loop-label.label))
    (fills_both c.args.w.now c.loop-label.w c.put_long.new.self _ _ c.loop-label.invariant c.put_long.ensures.0)

pub returns : goal.returns
returns c = let all : c.loop-label.label ≡ c.args.count = omega arith in fills_same c.args.w.now c.loop-label.w _ _ (ap label_bytes all) c.loop-label.invariant
