use Rattle.std.proofs.Common.{rules, length, ap, arith}
use Rattle.writing.proofs.Writers.{appends_all}
use Rattle.value_file.specs.ValueFile.{value_file_bytes}
use Rattle.value_file.proofs.bytes.write.Goals as goal

pub returns : goal.returns
returns g c =
    let bytes = value_file_bytes g.F.Field.ops g.F.FileField.prime c.args.values.now in
    let appended = c.put_file.ensures (omega (arith, ap length c.new.ensures.rest, c.requires.room)) in
    let all = appends_all c.new.result c.put_file.new.w bytes c.args.out.now c.new.ensures.written c.new.ensures.rest appended in
    let same = appended.buffer in
    search (rules, all, same)
