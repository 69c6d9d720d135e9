use Rattle.std.proofs.Common.{[], ◌∷◌, ◌*◌, length, refl}
use Rattle.writing.specs.Written.{Fills}
use Rattle.writing.proofs.Files.{fills_file, fills_section, fills_end}
use Rattle.assignments.specs.Assigned.{magic}
use Rattle.assignments.specs.Assignment.{header_bytes, value_bytes}
use Rattle.value_file.specs.ValueFile.{block, numbers, value_file_bytes}
use Rattle.value_file.proofs.Parts.{length_header, length_numbers}
use Rattle.value_file.proofs.bytes.put_file.Goals as goal

pub returns : goal.returns
unfolding value_file_bytes
returns g c =
    let O = g.F.Field.ops in
    let p = g.F.FileField.prime in
    let vs = c.args.values.now in
    let H = header_bytes p (length vs) in
    let B = value_bytes (numbers O p vs) in
    let w1 = c.put_start.new.self in
    let w2 = c.put_head.new.self in
    let w3 = c.put_header.new.w in
    let w4 = c.put_head-2.new.self in
    let w5 = c.put_numbers.new.w in
    let header : Fills w2 H w3 = rw c.requires.named at c.put_header.ensures in
    fills_file c.args.w.now w1 w5 magic 2 2 (block 1 H ∷ block 2 B ∷ []) refl c.put_start.ensures.0
    (fills_section w1 w2 w3 w5 1 16 H _ (length_header p (length vs)) c.put_head.ensures.0 header
    (fills_section w3 w4 w5 w5 2 (8 * length vs) B _ (length_numbers O p vs) c.put_head-2.ensures.0 c.put_numbers.ensures (fills_end w5)))
