use Rattle.std.proofs.Common.{sym, ◌∙◌, arith}
use Rattle.std.proofs.lemmas.Option.{MatchOption-at_none, MatchOption-at_some}
use Rattle.std.proofs.lemmas.Result.{err_from_is_err_and}
use Rattle.frames.proofs.Faults.{told_at, missing}
use Rattle.assignments.proofs.Walk.{no_header, other_size, other_prime, other_count, head_right}
use Rattle.assignments.proofs.checks.check_header.Goals as goal

pub returns-in_err-found : goal.returns-in_err-found
returns-in_err-found c =
    let p = err_from_is_err_and c.from_residual.result c.from_residual.ensures.1 in
    let m = missing _ _ _ c.in_err-found.ensures.value in
    rw (p.1, p.2, m.1) (no_header c.args.layout.header.bytes.now _ _ _ _ _ (MatchOption-at_none _ _ m.0 c.numbers.ensures) ∙ sym (told_at _ _ _ c.at.ensures), tt)

pub returns-then-layout-count : goal.returns-then-layout-count
returns-then-layout-count c =
    let q = MatchOption-at_some _ _ _ c.in_ok-found.ensures.ok_part c.numbers.ensures in (
      other_size c.args.layout.header.bytes.now _ _ _ _ _ q.0 q.1 (λ e. c.if-layout-count.true (omega (arith, e, q.3)))
          ∙ sym (told_at _ _ _ c.at-then-layout-count.ensures),
      tt,
    )

pub returns-then-found-prime : goal.returns-then-found-prime
returns-then-found-prime c =
    let q = MatchOption-at_some _ _ _ c.in_ok-found.ensures.ok_part c.numbers.ensures in (
      other_prime c.args.layout.header.bytes.now _ _ _ _ _ q.0 q.1 (omega (arith, q.3, c.if-layout-count.false)) (λ e. c.if-found-prime.true (q.2 ∙ e))
          ∙ sym (told_at _ _ _ c.at-then-found-prime.ensures),
      tt,
    )

pub returns-then-count-places : goal.returns-then-count-places
returns-then-count-places c =
    let q = MatchOption-at_some _ _ _ c.in_ok-found.ensures.ok_part c.numbers.ensures in (
      other_count c.args.layout.header.bytes.now _ _ _ _ _ q.0 q.1 (omega (arith, q.3, c.if-layout-count.false)) (sym q.2 ∙ c.if-found-prime.false)
          (λ e. c.if-count-places.true (omega (arith, q.3, e)))
          ∙ sym (told_at _ _ _ c.at-then-count-places.ensures),
      tt,
    )

pub returns : goal.returns
returns c =
    let q = MatchOption-at_some _ _ _ c.in_ok-found.ensures.ok_part c.numbers.ensures in (
      head_right c.args.layout.header.bytes.now _ _ _ _ _ q.0 q.1 (omega (arith, q.3, c.if-layout-count.false)) (sym q.2 ∙ c.if-found-prime.false)
          (omega (arith, q.3, c.if-count-places.false)),
      omega (arith, c.if-layout-count.false, c.if-count-places.false),
    )
