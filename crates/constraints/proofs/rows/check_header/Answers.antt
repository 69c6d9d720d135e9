use Rattle.std.proofs.Common.{sym, ◌∙◌, arith}
use Rattle.std.proofs.lemmas.Option.{MatchOption-at_none, MatchOption-at_some}
use Rattle.std.proofs.lemmas.Result.{err_from_is_err_and}
use Rattle.frames.proofs.Faults.{told_at, missing}
use Rattle.constraints.proofs.Walk.{no_header, other_prime, too_many, head_right}
use Rattle.constraints.proofs.rows.check_header.Goals as goal

pub returns-in_err-header : goal.returns-in_err-header
returns-in_err-header c =
    let p = err_from_is_err_and c.from_residual.result c.from_residual.ensures.1 in
    let m = missing _ _ _ c.in_err-header.ensures.value in
    rw (p.1, p.2, m.1) (no_header _ _ _ (MatchOption-at_none _ _ m.0 c.numbers.ensures) ∙ sym (told_at _ _ _ c.at.ensures), tt)

pub returns-then-header-prime : goal.returns-then-header-prime
returns-then-header-prime c =
    let h = MatchOption-at_some _ _ _ c.in_ok-header.ensures.ok_part c.numbers.ensures in
    (other_prime _ _ _ h.0 h.1 (λ e. c.if-header-prime.true (h.2.prime ∙ e)) ∙ sym (told_at _ _ _ c.at-then-header-prime.ensures), tt)

pub returns-then-public-header : goal.returns-then-public-header
returns-then-public-header c =
    let h = MatchOption-at_some _ _ _ c.in_ok-header.ensures.ok_part c.numbers.ensures in
    (too_many _ _ _ h.0 h.1 (sym h.2.prime ∙ c.if-header-prime.false) (omega (arith, h.2)) ∙ sym (told_at _ _ _ c.at-then-public-header.ensures), tt)

pub returns : goal.returns
returns c =
    let h = MatchOption-at_some _ _ _ c.in_ok-header.ensures.ok_part c.numbers.ensures in
    (head_right _ _ _ h.0 h.1 (sym h.2.prime ∙ c.if-header-prime.false) (omega (arith, h.2)), (h.2, c.if-header-prime.false))
