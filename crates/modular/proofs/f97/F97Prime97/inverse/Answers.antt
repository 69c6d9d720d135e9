use Rattle.std.proofs.Common.{ℕ, ◌%◌, ◌^◌, ◌<◌, true, eqb, get_or, refl, sym, ap, subst, ◌∙◌}
use Rattle.std.proofs.lemmas.Bool.{agree_below_at, eqb-true}
use Rattle.powers.proofs.Numbers.{numbers}
use Rattle.modular.proofs.f97.F97Prime97.inverse.Code.Mir.{static-1}
use Rattle.modular.proofs.f97.F97Prime97.inverse.Goals as goal

-- the table is tested at every place
pub returns-else-x-eq0 : goal.returns-else-x-eq0
returns-else-x-eq0 c =
    let is = c.value-x.ensures in
    let below = subst (λ (n : ℕ). n < 97) (sym is) c.args.x.below in
    let found = eqb-true _ _ (agree_below_at (λ (n : ℕ). eqb (get_or (numbers static-1) n 0) (n ^ 95 % 97)) (λ _. true) 97 c.value-x.result refl below) in
    (λ e. c.if-x-eq0.false (is ∙ e), found ∙ ap (λ (n : ℕ). n ^ 95 % 97) is)
