use Rattle.std.proofs.Common.{arith, length-drop, take_all, rules}
use Rattle.frames.specs.Little.{le4}
use Rattle.frames.proofs.number.word.Goals as goal

pub returns : goal.returns
unfolding le4
returns c = (search rules, c.from_le_bytes.ensures, take_all _ _ (simp length-drop (omega arith)))
