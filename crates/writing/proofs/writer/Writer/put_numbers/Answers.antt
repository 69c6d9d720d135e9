use Rattle.std.proofs.Common.{refl, ◌+◌, ◌≤◌, length, arith, length-drop}
use Rattle.writing.specs.Plain.{number_bytes}
use Rattle.writing.proofs.NumberBytes.{length_numbers}
use Rattle.writing.proofs.Writers.{put_up_to}
use Rattle.writing.proofs.writer.Writer.put_numbers.Goals as goal

pub returns-then-values-room : goal.returns-then-values-room
returns-then-values-room g c =
    let w = c.args.self.now in
    let a = w.buffer.now in
    let z = c.put_numbers.new.out in
    let bytes = number_bytes g.F.Field.ops g.F.FileField.prime c.args.values.now in
    let d = length-drop w.len a in
    let size = length_numbers g.F.Field.ops g.F.FileField.prime c.args.values.now in
    let fits : w.len + length bytes ≤ length a = omega (arith, w.inside) in
    let p = c.put_numbers.ensures in (
      λ _. record {
        buffer = refl;
        text = (put_up_to a z bytes w.len _ (omega arith) fits p).0;
        behind = (put_up_to a z bytes w.len _ (omega arith) fits p).1;
      },
      λ h. absurd (omega arith),
    )

pub returns-else-values-room : goal.returns-else-values-room
returns-else-values-room g c = let size = length_numbers g.F.Field.ops g.F.FileField.prime c.args.values.now in (λ h. absurd (omega arith), λ _. refl)
