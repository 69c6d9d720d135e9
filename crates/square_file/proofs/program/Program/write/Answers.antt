use Rattle.std.proofs.Common.{rules, length, ap, arith}
use Rattle.writing.proofs.Writers.{appends_all}
use Rattle.square_file.specs.Programs.{file}
use Rattle.square_file.proofs.program.Program.write.Goals as goal

pub returns-clause-file : goal.returns-clause-file
returns-clause-file g c =
    let F = file g.F.Field.ops g.F.FileField.prime c.args.self.now in
    let appended = c.put_file.ensures.file (omega (arith, ap length c.new.ensures.rest, c.requires.room)) in
    let all = appends_all c.new.result c.put_file.new.w F c.args.out.now c.new.ensures.written c.new.ensures.rest appended in
    let same = appended.buffer in
    search (rules, all, same)
