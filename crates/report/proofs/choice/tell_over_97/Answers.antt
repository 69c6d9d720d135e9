use Rattle.std.proofs.Common.{sym, ap, ◌∙◌}
use Rattle.loading.specs.Loaded.{file_shape}
use Rattle.report.specs.Times.{times}
use Rattle.report.specs.Means.{doublings}
use Rattle.report.proofs.Doublings.{tells_by}
use Rattle.report.proofs.choice.tell_over_97.Goals as goal

pub returns-in-Never : goal.returns-in-Never
returns-in-Never c =
    tells_by 97 0 c.args.reader c.args.witness.now c.args.out.now c.tell_circuit.new.out c.tell_circuit.result
    (sym (ap times c.in-Never.is) ∙ c.doublings_of.ensures ∙ ap (λ h. doublings 97 (file_shape h)) c.header.ensures) c.tell_circuit.ensures

pub returns-in-Once : goal.returns-in-Once
returns-in-Once c =
    tells_by 97 1 c.args.reader c.args.witness.now c.args.out.now c.tell_circuit-in-Once.new.out c.tell_circuit-in-Once.result
    (sym (ap times c.in-Once.is) ∙ c.doublings_of.ensures ∙ ap (λ h. doublings 97 (file_shape h)) c.header.ensures) c.tell_circuit-in-Once.ensures

pub returns-in-Twice : goal.returns-in-Twice
returns-in-Twice c =
    tells_by 97 2 c.args.reader c.args.witness.now c.args.out.now c.tell_circuit-in-Twice.new.out c.tell_circuit-in-Twice.result
    (sym (ap times c.in-Twice.is) ∙ c.doublings_of.ensures ∙ ap (λ h. doublings 97 (file_shape h)) c.header.ensures) c.tell_circuit-in-Twice.ensures
