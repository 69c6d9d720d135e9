use Rattle.std.proofs.Common.{◌∙◌}
use Rattle.std.proofs.lemmas.Result.{err_from_is_err_and, MatchResult-weaker}
use Rattle.frames.specs.Checks.{laid}
use Rattle.frames.proofs.Faults.{stops, goes}
use Rattle.frames.proofs.split.checked.Goals as goal

pub returns-in_err-count : goal.returns-in_err-count
unfolding laid
returns-in_err-count c =
    let p = err_from_is_err_and c.from_residual.result c.from_residual.ensures.1 in
    rw (p.1, p.2) (stops _ _ _ c.in_err-count.ensures.0, tt)

pub returns-in_err-check_frames : goal.returns-in_err-check_frames
unfolding laid
returns-in_err-check_frames c =
    let p = err_from_is_err_and c.from_residual-in_err-check_frames.result c.from_residual-in_err-check_frames.ensures.1 in
    let s = c.in_ok-count.ensures in
    rw (p.1, p.2) (goes _ _ s.0 ∙ stops _ _ _ (simp s.1.1 at c.in_err-check_frames.ensures.0), tt)

pub returns : goal.returns
unfolding laid
returns c =
    let s = c.in_ok-count.ensures in
    let f = simp s.1.1 at c.in_ok-check_frames.ensures.0 in
    MatchResult-weaker c.check_kinds.result c.check_kinds.ensures (λ l h. (goes _ _ s.0 ∙ goes _ _ f ∙ h.0, h.1)) (λ e h. (goes _ _ s.0 ∙ goes _ _ f ∙ h.0, tt))
