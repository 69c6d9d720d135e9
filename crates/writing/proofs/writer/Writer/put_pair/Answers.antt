use Rattle.std.proofs.Common.{refl, ◌+◌, ◌≤◌, ◌++◌, length, take, drop, sym, ap, ◌∙◌, arith, length-drop}
use Rattle.frames.specs.Little.{little}
use Rattle.frames.proofs.Bytes.{length_little}
use Rattle.writing.specs.Put.{Put}
use Rattle.writing.proofs.Littles.{little_four, little_eight, length_pair}
use Rattle.writing.proofs.Writers.{put_moved, put_both, put_written, put_behind}
use Rattle.writing.proofs.writer.Writer.put_pair.Goals as goal

pub returns-then-room-ge12 : goal.returns-then-room-ge12
returns-then-room-ge12 c =
    let w = c.args.self.now in
    let a = w.buffer.now in
    let b = c.put_inside.new.out in
    let z = c.put_inside-then-room-ge12.new.out in
    let four = little 4 c.args.word in
    let eight = little 8 c.args.long in
    let d = length-drop w.len a in
    let size = length_pair c.args.word c.args.long in
    let fits : w.len + length (four ++ eight) ≤ length a = omega (arith, w.inside) in
    let first : Put a w.len four b = rw (c.to_le_bytes.ensures ∙ little_four c.args.word) at c.put_inside.ensures in
    let put = rw (c.to_le_bytes-then-room-ge12.ensures ∙ little_eight c.args.long) at c.put_inside-then-room-ge12.ensures in
    let second : Put b (w.len + 4) eight z = put_moved b z eight put (omega arith) in
    let both = put_both a b z four eight w.len 4 (length_little 4 c.args.word) (omega arith) first second in (
      λ _. record {
        buffer = refl;
        text = ap (λ n. take (w.len + n) z) (sym size) ∙ put_written a z (four ++ eight) w.len fits both;
        behind = ap (λ n. drop (w.len + n) z) (sym size) ∙ put_behind a z (four ++ eight) w.len fits both;
      },
      λ h. absurd (omega arith),
    )

pub returns-else-room-ge12 : goal.returns-else-room-ge12
returns-else-room-ge12 c = (λ h. absurd (omega (arith, length_pair c.args.word c.args.long)), λ _. refl)
