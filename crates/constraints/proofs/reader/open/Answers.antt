use Rattle.std.proofs.Common.{arith}
use Rattle.std.proofs.lemmas.Result.{MatchResult-weaker}
use Rattle.constraints.proofs.Back.{opened_encodes}
use Rattle.constraints.proofs.Stood.{starts, never}
use Rattle.constraints.proofs.reader.open.Goals as goal

pub returns : goal.returns
returns c =
    record {
      verdict = c.checked.ensures;
      circuit = MatchResult-weaker c.checked.result c.checked.ensures
          (λ s h. (opened_encodes _ _ (λ i. omega (arith, c.type_inv.bytes i)) h.0, starts _ _ s h.1))
          (λ e h. never _ _ _ h.0);
    }
