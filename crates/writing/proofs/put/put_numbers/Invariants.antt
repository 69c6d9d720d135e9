use Rattle.std.proofs.Common.{take}
use Rattle.writing.specs.Put.{Put}
use Rattle.writing.specs.Plain.{number_bytes}
use Rattle.writing.proofs.put.put_numbers.Given as goal

abbrev pub invariant-loop-i : goal.invariant-loop-i
invariant-loop-i g l = Put l.initial.out l.at (number_bytes g.F.Field.ops g.F.FileField.prime (take l.i l.values)) l.out
