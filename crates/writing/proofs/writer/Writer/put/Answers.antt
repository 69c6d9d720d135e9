use Rattle.std.proofs.Common.{refl, ◌+◌, ◌≤◌, length, arith, length-drop}
use Rattle.writing.proofs.Writers.{put_written, put_behind}
use Rattle.writing.proofs.writer.Writer.put.Goals as goal

pub returns-then-bytes-room : goal.returns-then-bytes-room
returns-then-bytes-room c =
    let w = c.args.self.now in
    let d = length-drop w.len w.buffer.now in
    let fits : w.len + length c.args.bytes.now ≤ length w.buffer.now = omega (arith, c.args.self.now.inside) in
    let p = c.put_inside.ensures in (
      λ _. record {
        buffer = refl;
        text = put_written w.buffer.now c.put_inside.new.out c.args.bytes.now w.len fits p;
        behind = put_behind w.buffer.now c.put_inside.new.out c.args.bytes.now w.len fits p;
      },
      λ h. absurd (omega arith),
    )
