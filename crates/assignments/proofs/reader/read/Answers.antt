use Rattle.std.proofs.Common.{map, ap, ◌∙◌, arith}
use Rattle.std.proofs.lemmas.Result.{MatchResult-weaker}
use Rattle.field.specs.Operations.{ones}
use Rattle.assignments.proofs.Stands.{encodes_read, read_encodes, never}
use Rattle.assignments.proofs.reader.read.Goals as goal

pub returns : goal.returns
returns g c =
    record {
      verdict = c.filled.ensures;
      assignment = MatchResult-weaker c.filled.result c.filled.ensures
          (λ u h. ((_, read_encodes _ (λ i. omega (arith, c.type_inv.bytes i)) _ _ h.0), λ vs ok. h.1 ∙ ap (map (ones g.F.Field.ops)) (encodes_read _ _ _ vs ok).1))
          (λ e h. never _ _ _ _ h.0);
    }
