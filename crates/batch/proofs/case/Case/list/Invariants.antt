-- As many as turns were made.
use Rattle.std.proofs.Common.{◌≡◌, vec_len}
use Rattle.batch.proofs.case.Case.list.Given as goal

abbrev pub invariant-loop : goal.invariant-loop
invariant-loop g l = vec_len l.all ≡ l.counter
