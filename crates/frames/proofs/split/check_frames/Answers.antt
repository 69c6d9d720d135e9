use Rattle.std.proofs.Common.{◌≡◌, ◌-◌, ◌+◌, sym, ◌∙◌, arith}
use Rattle.std.proofs.lemmas.Result.{err_from_is_err_and}
use Rattle.frames.proofs.Faults.{told_at}
use Rattle.frames.proofs.Walk.{framed_more, framed_short, framed_done, framed_over}
use Rattle.frames.proofs.split.check_frames.Goals as goal

pub returns-in_err-at : goal.returns-in_err-at
returns-in_err-at c =
    let p = err_from_is_err_and c.from_residual.result c.from_residual.ensures.1 in
    let e = c.in_err-at.ensures in
    rw (p.1, p.2) (c.loop.invariant ∙ framed_short _ _ _ (omega arith) e.0 ∙ sym e.1, tt)

pub loop-preserved : goal.loop-preserved
loop-preserved c =
    let e = c.in_ok-at.ensures in
    let j : c.args.count - (c.loop.counter + 1) ≡ c.args.count - c.loop.counter - 1 = omega arith in
    simp (e.2, j) (c.loop.invariant ∙ framed_more _ _ _ (omega arith) e.0)

pub returns-then-at-bytes : goal.returns-then-at-bytes
returns-then-at-bytes c =
    let z : c.args.count - c.loop.counter ≡ 0 = omega arith in
    ((rw z at c.loop.invariant) ∙ framed_over _ _ c.if-at-bytes.true ∙ sym (told_at _ _ _ c.at.ensures), tt)

pub returns : goal.returns
returns c =
    let z : c.args.count - c.loop.counter ≡ 0 = omega arith in
    ((rw z at c.loop.invariant) ∙ framed_done _ _ c.if-at-bytes.false, tt)
