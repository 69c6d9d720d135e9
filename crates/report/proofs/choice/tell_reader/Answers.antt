use Rattle.std.proofs.Common.{sym}
use Rattle.loading.specs.Loaded.{file_shape}
use Rattle.report.proofs.Doublings.{tells_by, never_doubled}
use Rattle.report.proofs.choice.tell_reader.Goals as goal

pub returns-else-header-eq97-clause-large : goal.returns-else-header-eq97-clause-large
returns-else-header-eq97-clause-large c _ =
    tells_by 12289 0 c.args.reader c.args.witness.now c.args.out.now c.tell_circuit.new.out c.tell_circuit.result
    (sym (never_doubled (file_shape c.args.reader.header))) c.tell_circuit.ensures
