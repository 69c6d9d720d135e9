use Rattle.std.proofs.Common.{refl, arith}
use Rattle.writing.proofs.Littles.{length_start}
use Rattle.writing.proofs.Writers.{fills_both}
use Rattle.writing.proofs.writer.Writer.put_start.Goals as goal

pub returns-then-room-ge12 : goal.returns-then-room-ge12
returns-then-room-ge12 c =
    let w1 = c.put_word.new.self in
    let w2 = c.put_word-then-room-ge12.new.self in
    let w3 = c.put_word-then-room-ge12-2.new.self in (
      fills_both c.args.self.now w1 w3 _ _ c.put_word.ensures.0 (fills_both w1 w2 w3 _ _ c.put_word-then-room-ge12.ensures.0 c.put_word-then-room-ge12-2.ensures.0),
      λ h. absurd (omega (arith, length_start c.args.format.magic c.args.format.version c.args.sections)),
    )

pub returns-else-room-ge12 : goal.returns-else-room-ge12
returns-else-room-ge12 c = (λ h. absurd (omega (arith, length_start c.args.format.magic c.args.format.version c.args.sections)), λ _. refl)
