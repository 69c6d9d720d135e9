-- Over which of the known primes a constraint file is read.
use Rattle.std.specs.Prelude.{ℕ, cond, List, Some, None, ◌==◌}
use Rattle.refusal.specs.Due.{Due}
use Rattle.constraints.specs.Opened.{opened}

-- a circuit is tried over 97, and over 12289 where that is refused for its prime
abbrev pub prime_by : Due → ℕ
prime_by None = 97
prime_by (Some fault) = cond (fault.0 == 9) 12289 97

abbrev pub prime_of : List ℕ → ℕ
prime_of xs = prime_by (opened xs 97)
