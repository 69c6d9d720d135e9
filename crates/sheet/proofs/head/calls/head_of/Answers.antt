use Rattle.std.proofs.Common.{◌+◌, ◌*◌, ◌≤◌, ◌^◌, sym, ap, ◌∙◌, arith}
use Rattle.sheet.proofs.Powers.{log_up_least, next_is, exponent_is}
use Rattle.sheet.proofs.head.calls.head_of.Goals as goal

pub invariant_of-result-clause-k_is : goal.invariant_of-result-clause-k_is
invariant_of-result-clause-k_is c = let k = c.next_power_of_two-k.ensures in next_is _ _ k.power k.lower_bound k.upper_bound

pub invariant_of-result-clause-log_n_is : goal.invariant_of-result-clause-log_n_is
invariant_of-result-clause-log_n_is c =
    let n = c.next_power_of_two-n.ensures in
    let is = next_is _ _ n.power n.lower_bound n.upper_bound in
    exponent_is _ _ (omega arith) (omega arith)

pub invariant_of-result-clause-n_is : goal.invariant_of-result-clause-n_is
invariant_of-result-clause-n_is c =
    let n = c.next_power_of_two-n.ensures in
    n.power.1 ∙ ap (λ e. 2 ^ e) (sym (exponent_is n.power.0 c.ilog2.result (omega arith) (omega arith)))

pub invariant_of-result-clause-n_most : goal.invariant_of-result-clause-n_most
invariant_of-result-clause-n_most c =
    let n = c.next_power_of_two-n.ensures in
    let is = next_is _ _ n.power n.lower_bound n.upper_bound in
    let least : _ ≤ 2 ^ 11 = (log_up_least (c.next_power_of_two-k.result + 2 * c.args.counts.rows)).least 11 (omega arith) in
    omega arith
