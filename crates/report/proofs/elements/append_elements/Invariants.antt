use Rattle.std.proofs.Common.{◌+◌, ◌*◌, ◌≤◌, map, length, take}
use Rattle.writing.specs.Written.{rest}
use Rattle.report.specs.Text.{Appended, elements_text}
use Rattle.report.proofs.elements.append_elements.Given as goal

abbrev pub invariant-loop-x : goal.invariant-loop-x
invariant-loop-x g l =
    record {
      text : Appended l.initial.out (elements_text (map g.F.FileField.coordinates (take l.x-index l.xs))) l.out;
      short : length (rest l.initial.out) ≤ length (rest l.out) + (6 * g.F.FileField.width + 1) * l.x-index;
    }
