use Rattle.std.proofs.Common.{take}
use Rattle.sapsheet_c.proofs.Written.{Numbered}
use Rattle.sapsheet_c.proofs.numbers.write_numbers.Given as goal

abbrev pub invariant-loop-x : goal.invariant-loop-x
invariant-loop-x g l = Numbered g.F.Field.ops g.F.FileField.prime (take l.x-index l.xs) l.initial.out l.out
