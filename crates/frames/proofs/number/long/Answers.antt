use Rattle.std.proofs.Common.{arith, length-drop, take_all, rules}
use Rattle.frames.specs.Little.{le4, le8}
use Rattle.frames.proofs.number.long.Goals as goal

pub returns : goal.returns
unfolding le4 le8
returns c = (search rules, omega (arith, c.from_le_bytes.ensures), take_all _ _ (simp length-drop (omega arith)))
