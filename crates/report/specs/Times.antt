-- How often a field is doubled, as a number.
use Rattle.std.specs.Prelude.{ℕ}
use Rattle.report.specs.declared.choice.Doublings.{Doublings}
use Rattle.report.specs.declared.choice.Doublings.TheVariants.{Never, Once, Twice}

abbrev pub times : Doublings → ℕ
times Never = 0
times Once = 1
times Twice = 2
