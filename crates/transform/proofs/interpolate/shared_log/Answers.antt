use Rattle.std.proofs.Common.{◌≡◌, ◌^◌, true, false, ◌&&◌, eqb, sym, ap, ◌∙◌}
use Rattle.std.proofs.lemmas.Bool.{eq-eqb, ne_eqb, eqb-true, and_from, and_left, and_right}
use Rattle.transform.specs.Logarithm.{is_power_of_two}
use Rattle.transform.proofs.Logarithms.{log2_is, power_of_two_ones}
use Rattle.transform.proofs.interpolate.shared_log.Goals as goal
use Rattle.transform.proofs.interpolate.shared_log.Goals.{else-values-out-via-then-values-out+else-is_power_of_two, else-values-out-via-else-values-out}

pub returns-then-is_power_of_two : goal.returns-then-is_power_of_two
returns-then-is_power_of_two c =
    let n = c.args.values in
    let power : is_power_of_two n ≡ true = sym (power_of_two_ones n) ∙ sym c.if-is_power_of_two.ensures in
    let log = log2_is n c.ilog2.result c.ilog2.ensures.power_le c.ilog2.ensures.next_power_gt in
    let granted = and_from (eqb n c.args.out) (is_power_of_two n) (eq-eqb _ _ c.if-values-out.true) power in
    let size = eqb-true _ _ power ∙ ap (λ e. 2 ^ e) log in
    (rw granted, (size, sym c.if-values-out.true ∙ size, sym log))

pub returns-else-values-out : goal.returns-else-values-out
returns-else-values-out c =
    let refused : (eqb c.args.values c.args.out && is_power_of_two c.args.values) ≡ false =
    elim c.else-values-out.branch [
      | else-values-out-via-then-values-out+else-is_power_of_two w ↦ and_right _ _ (sym (power_of_two_ones c.args.values) ∙ sym w.if-is_power_of_two.ensures)
      | else-values-out-via-else-values-out w ↦ and_left _ _ (ne_eqb _ _ w.if-values-out.false)
    ]
    in
    (rw (refused, c.at.ensures.0, c.at.ensures.1), tt)
