-- What stands before the counter is repeated, and `at` is the next place round.
use Rattle.std.proofs.Common.{◌≡◌, ℕ, ◌%◌, ◌<◌, length, get_or}
use Rattle.transform.specs.Polynomial.{coefficient}
use Rattle.square.proofs.public.repeat_first.Given as goal

abbrev pub invariant-loop-place : goal.invariant-loop-place
invariant-loop-place g l =
    let O = g.F.Field.ops in
    let round = length l.first in
    (l.at ≡ l.place-index % round) × ((j : ℕ) → j < l.place-index → get_or l.rest j O.zero ≡ coefficient O l.first (j % round))
