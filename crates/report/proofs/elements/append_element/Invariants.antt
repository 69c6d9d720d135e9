use Rattle.std.proofs.Common.{◌+◌, ◌-◌, ◌*◌, ◌≤◌, length, take}
use Rattle.writing.specs.Written.{rest}
use Rattle.report.specs.Text.{Appended, element_text}
use Rattle.report.proofs.elements.append_element.Given as goal

abbrev pub invariant-loop-c : goal.invariant-loop-c
invariant-loop-c g l =
    record {
      inside : l.i ≤ g.F.FileField.width;
      text : Appended l.initial.out (element_text (take l.i (g.F.FileField.coordinates l.x))) l.out;
      short : length (rest l.initial.out) ≤ length (rest l.out) + 6 * l.i;
    }

abbrev pub decreases-loop-c : goal.decreases-loop-c
decreases-loop-c g l = g.F.FileField.width - l.i
