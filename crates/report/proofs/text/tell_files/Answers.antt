use Rattle.report.proofs.Composing.{told_opened}
use Rattle.report.proofs.text.tell_files.Goals as goal

pub returns : goal.returns
returns c =
    let told = c.in_ok-open_known.ensures in
    told_opened c.args.circuit.now c.args.witness.now c.args.out.now _ c.tell_reader.result c.tell_reader.new.out
    c.if-circuit-gt-LONGEST.false told.verdict told.circuit c.tell_reader.ensures.small c.tell_reader.ensures.large
