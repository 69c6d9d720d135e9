use Rattle.std.proofs.Common.{◌∙◌}
use Rattle.writing.proofs.Littles.{little_eight}
use Rattle.writing.proofs.writer.Writer.put_long.Goals as goal

pub returns : goal.returns
returns c = rw (c.to_le_bytes.ensures ∙ little_eight c.args.long) at c.put.ensures
