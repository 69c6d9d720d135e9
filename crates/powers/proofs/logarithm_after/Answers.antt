use Rattle.std.proofs.Common.{◌≡◌, ℕ, ◌++◌, ◌+◌, ◌-◌, get_or, sym, subst, refl, arith}
use Rattle.powers.specs.Logarithm.{Logarithm}
use Rattle.powers.proofs.Numbers.{numbers}
use Rattle.powers.proofs.Rules.{log_at}
use Rattle.powers.proofs.logarithm_after.Code.Mir.{static-1, static-2}
use Rattle.powers.proofs.logarithm_after.Goals as goal

pub returns : goal.returns
returns c =
    let i = c.args.i in
    let table = numbers static-1 ++ numbers static-2 in
    let place : i + 1 - 1 ≡ i = omega arith in
    subst (Logarithm (i + 1)) (sym c.entry.ensures)
    (subst (λ (k : ℕ). Logarithm (i + 1) (get_or table k 0)) place (log_at table refl refl (i + 1) (omega arith) (omega arith)))
