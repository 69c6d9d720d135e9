use Rattle.std.proofs.Common.{◌≡◌, length, sym, ◌∙◌, arith}
use Rattle.std.proofs.lemmas.Bool.Decides.{nat_tests}
use Rattle.frames.proofs.Numbers.{left}
use Rattle.assignments.proofs.checks.numbers.Goals as goal

pub returns-in_err-count : goal.returns-in_err-count
returns-in_err-count c =
    let a = left c.args.header.now _ 12 c.in_ok-size.ensures.3 in
    rw c.from_residual-in_err-count.ensures (λ h. omega (arith, h, a.size, c.in_err-count.ensures))

pub returns-then-size-ne8 : goal.returns-then-size-ne8
returns-then-size-ne8 c =
    let a = left c.args.header.now _ 12 c.in_ok-size.ensures.3 in
    let b = left c.args.header.now _ 16 (a.next 4 _ c.in_ok-count.ensures.2) in
    λ h. elim c.then-size-ne8.branch [
      | goal.then-size-ne8-via-then-size-ne8 w ↦ w.if-size-ne8.true (c.in_ok-size.ensures.1 ∙ h.1)
      | goal.then-size-ne8-via-else-size-ne8+then-not-is_empty w ↦ grind (arith, nat_tests, h, b.size, w.is_empty.ensures, w.if-not-is_empty.true)
    ]

pub returns : goal.returns
returns c =
    let a = left c.args.header.now _ 12 c.in_ok-size.ensures.3 in
    let b = left c.args.header.now _ 16 (a.next 4 _ c.in_ok-count.ensures.2) in
    let n : length c.in_ok-count.rest.now ≡ 0 = grind (arith, nat_tests, c.is_empty.ensures, c.if-not-is_empty.false) in
    (omega (arith, n, b.size, c.in_ok-count.ensures.0, a.size), sym c.in_ok-size.ensures.1 ∙ c.if-size-ne8.false, c.in_ok-size.ensures.2, c.in_ok-count.ensures.1 ∙ a.word)
