use Rattle.writing.specs.Written.{Fills}
use Rattle.square_file.specs.SquareFile.{label_bytes}
use Rattle.square_file.proofs.bytes.put_labels.Given as goal

abbrev pub invariant-loop-label : goal.invariant-loop-label
invariant-loop-label l = Fills l.initial.w (label_bytes l.label) l.w
