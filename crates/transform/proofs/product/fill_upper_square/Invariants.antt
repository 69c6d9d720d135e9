use Rattle.std.proofs.Common.{◌≡◌, ℕ, ◌+◌, ◌<◌, length, get_or}
use Rattle.transform.specs.Polynomial.{product_at}
use Rattle.transform.proofs.product.fill_upper_square.Given as goal

abbrev pub invariant-loop-j : goal.invariant-loop-j
invariant-loop-j g l = let O = g.F.Field.ops in (k : ℕ) → k < l.j → get_or l.out k O.zero ≡ product_at O l.u l.u (length l.u + k)
