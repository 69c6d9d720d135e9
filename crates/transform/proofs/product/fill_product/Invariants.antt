use Rattle.std.proofs.Common.{◌≡◌, ℕ, ◌<◌, get_or}
use Rattle.transform.specs.Polynomial.{product_at}
use Rattle.transform.proofs.product.fill_product.Given as goal

abbrev pub invariant-loop-e : goal.invariant-loop-e
invariant-loop-e g l = let O = g.F.Field.ops in (k : ℕ) → k < l.e → get_or l.out k O.zero ≡ product_at O l.u l.v k
