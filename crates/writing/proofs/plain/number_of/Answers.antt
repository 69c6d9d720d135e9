use Rattle.std.proofs.Common.{unwrap_or, ap, ◌∙◌}
use Rattle.writing.specs.Plain.{numbered}
use Rattle.writing.proofs.plain.number_of.Goals as goal

pub returns : goal.returns
unfolding numbered
returns g c = c.unwrap_or.ensures ∙ ap (λ o. unwrap_or o 0) c.plain_number.ensures
