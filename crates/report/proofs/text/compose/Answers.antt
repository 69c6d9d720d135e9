use Rattle.refusal.specs.Numbers.{number_of}
use Rattle.report.specs.Outcome.{refused, render}
use Rattle.report.proofs.text.compose.Goals as goal

pub returns-in-Err : goal.returns-in-Err
returns-in-Err c =
    let e = c.in-Err.e in
    (refused (number_of e.reason) e.at, c.in-Err.ensures.0, unfold render in (rw c.in-Err.ensures.1 at c.append_refusal.ensures))
