use Rattle.std.proofs.Common.{◌≡◌, ◌-◌, ◌+◌, sym, ◌∙◌, arith}
use Rattle.frames.proofs.Faults.{told_at}
use Rattle.frames.proofs.Walk.{framed_step, others_more, others_wrong, others_done}
use Rattle.frames.proofs.Shapes.{named}
use Rattle.frames.proofs.split.check_others.Goals as goal

pub returns-in_err-section : goal.returns-in_err-section
returns-in_err-section c =
    let f = framed_step _ _ _ (omega arith) c.loop.invariant.0 in
    absurd (omega (arith, f.0, c.in_err-section.ensures.0))

pub returns-in_default : goal.returns-in_default
returns-in_default c =
    let e = c.in_ok-section.ensures.1 in
    (c.loop.invariant.1 ∙ others_wrong _ _ _ (omega arith) (named _ _ _ e c.in_default.not-Other) ∙ sym (told_at _ _ _ c.at.ensures), tt)

pub loop-preserved : goal.loop-preserved
loop-preserved c =
    let e = c.in_ok-section.ensures in
    let s = simp c.in-Other.is at e.1 in
    let f = framed_step _ _ _ (omega arith) c.loop.invariant.0 in
    let j : c.args.count - (c.loop.counter + 1) ≡ c.args.count - c.loop.counter - 1 = omega arith in
    (simp (e.2, j) f.1, simp (e.2, j) (c.loop.invariant.1 ∙ others_more _ _ _ (omega arith) s.2 s.3))

pub returns : goal.returns
returns c =
    let z : c.args.count - c.loop.counter ≡ 0 = omega arith in
    ((rw z at c.loop.invariant.1) ∙ others_done _ _, tt)
