use Rattle.std.proofs.Common.{refl, ◌+◌, ◌≤◌, ◌∙◌, length, arith, length-take-le}
use Rattle.frames.specs.Little.{little}
use Rattle.frames.proofs.Bytes.{length_little}
use Rattle.writing.specs.Put.{Put}
use Rattle.writing.proofs.Littles.{little_four}
use Rattle.writing.proofs.Writers.{put_moved, put_front, put_rest}
use Rattle.writing.proofs.writer.Writer.put_word_at.Goals as goal
use Rattle.writing.proofs.writer.Writer.put_word_at.Goals.{else-at-self-via-then-at-self+else-self-at-ge4, else-at-self-via-else-at-self}

pub returns-then-self-at-ge4 : goal.returns-then-self-at-ge4
returns-then-self-at-ge4 c =
    let w = c.args.self.now in
    let four = little 4 c.args.word in
    let size = length_little 4 c.args.word in
    let l = length-take-le w.len w.buffer.now w.inside in
    let fits : c.args.at + length four ≤ w.len = omega arith in
    let put = rw (c.to_le_bytes.ensures ∙ little_four c.args.word) at c.put_inside.ensures in
    let p : Put w.buffer.now c.args.at four c.put_inside.new.out = put_moved w.buffer.now c.put_inside.new.out four put (omega arith) in (
      λ _. record {
        buffer = refl;
        text = put_front w.buffer.now c.put_inside.new.out four c.args.at w.len fits w.inside p;
        behind = put_rest w.buffer.now c.put_inside.new.out four c.args.at w.len fits w.inside p;
      },
      λ h. absurd (omega arith),
    )

pub returns-else-at-self : goal.returns-else-at-self
returns-else-at-self c =
    let w = c.args.self.now in
    let size = length_little 4 c.args.word in
    let l = length-take-le w.len w.buffer.now w.inside in
    elim c.else-at-self.branch [
      | else-at-self-via-then-at-self+else-self-at-ge4 v ↦ (λ h. absurd (omega arith), λ _. refl)
      | else-at-self-via-else-at-self v ↦ (λ h. absurd (omega arith), λ _. refl)
    ]
