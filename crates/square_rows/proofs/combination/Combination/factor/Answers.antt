use Rattle.std.proofs.Common.{◌≤◌, ◌∙◌, arith, rules}
use Rattle.square_rows.proofs.Weighted.{factor_a, factor_b, factor_c, factor_none}
use Rattle.square_rows.proofs.combination.Combination.factor.Goals as goal

pub returns-in-Ok-A : goal.returns-in-Ok-A
returns-in-Ok-A g c = factor_a g.met.F.Field.laws c.args.self.now c.args.matrix (search rules)

pub returns-in-Ok-B : goal.returns-in-Ok-B
returns-in-Ok-B g c = factor_b g.met.F.Field.laws c.args.self.now c.args.matrix (search rules)

pub returns-in-Ok-C : goal.returns-in-Ok-C
returns-in-Ok-C g c = factor_c g.met.F.Field.laws c.args.self.now c.args.matrix (search rules)

pub returns-in-Err : goal.returns-in-Err
returns-in-Err g c =
    let past : 3 ≤ c.args.matrix = search rules in
    c.zero.ensures
    ∙ factor_none g.met.F.Field.laws c.args.self.now c.args.matrix (λ e. omega arith) (λ e. omega arith) (λ e. omega arith)
