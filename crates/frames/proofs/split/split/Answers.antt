use Rattle.std.proofs.Common.{arith}
use Rattle.std.proofs.lemmas.Result.{MatchResult-weaker}
use Rattle.frames.proofs.Stands.{shown, refused}
use Rattle.frames.proofs.split.split.Goals as goal

pub returns : goal.returns
returns c =
    record {
      verdict = c.checked.ensures;
      sections = MatchResult-weaker c.checked.result c.checked.ensures
          (λ s h. shown _ _ _ s (omega arith) (omega arith) (λ i. omega (arith, c.type_inv.bytes i)) h.0 h.1)
          (λ e h. refused _ _ _ _ (omega arith) (omega arith) h.0);
    }
