use Rattle.std.proofs.Common.{◌∙◌}
use Rattle.writing.proofs.Littles.{little_four}
use Rattle.writing.proofs.writer.Writer.put_word.Goals as goal

pub returns : goal.returns
returns c = rw (c.to_le_bytes.ensures ∙ little_four c.args.word) at c.put.ensures
