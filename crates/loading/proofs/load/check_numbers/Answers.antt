use Rattle.std.proofs.Common.{◌≡◌, ℕ, ◌+◌, Some, None, ◌∙◌, subst, arith}
use Rattle.std.proofs.lemmas.Result.{err_from_is_err_and}
use Rattle.refusal.specs.Due.{Due}
use Rattle.refusal.specs.Numbers.{number_of}
use Rattle.sheet.specs.Rules.{planned}
use Rattle.sheet.specs.Outcomes.{shape}
use Rattle.loading.specs.Loaded.{file_shape}
use Rattle.loading.proofs.Owed.{plan_refused}
use Rattle.loading.proofs.load.check_numbers.Goals as goal

pub returns-in_err-plan : goal.returns-in_err-plan
returns-in_err-plan g c =
    let O = g.F.Field.ops in
    let h = c.args.header in
    let p = err_from_is_err_and c.from_residual-in_err-plan.result c.from_residual-in_err-plan.ensures.1 in
    let e = c.in_err-plan.field-0.0 in
    let wide : c.in_ok-publics.publics ≡ 1 + h.outputs + h.inputs = grind (arith, c.map_err.ensures, c.try_from.ensures, c.public.ensures, c.in_ok-publics.was) in
    let owed : planned O (file_shape h) None ≡ Some (number_of e.reason, e.at) = subst (λ (l : ℕ). ◌≡◌ {A = Due} (planned O (shape h.wires l h.rows) None) (Some (number_of e.reason, e.at))) wide c.in_err-plan.ensures.0 in
    rw (p.1, p.2) (plan_refused O g.F.FileField.prime h.prime c.args.prime_at (file_shape h) c.args.entries c.args.values None _ _ (c.if-header-prime.false ∙ c.prime.ensures.value) owed, tt)
