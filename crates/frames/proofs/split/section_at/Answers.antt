use Rattle.std.proofs.Common.{length, ap, add-zero, arith, length-drop, drop-drop}
use Rattle.std.proofs.lemmas.Option.{MatchOption-at_some}
use Rattle.frames.proofs.Numbers.{le4_drop, le8_drop, rest}
use Rattle.frames.proofs.Faults.{told_at}
use Rattle.frames.proofs.split.section_at.Goals as goal

pub returns-then-size-rest : goal.returns-then-size-rest
returns-then-size-rest c =
    let h = MatchOption-at_some _ _ _ c.in_ok-head.ensures.ok_part c.get.ensures.lookup.0 in
    let p = MatchOption-at_some _ _ _ c.in_ok-kind.ensures.ok_part c.pair.ensures in
    let e = simp (h.2, rest, le4_drop, le8_drop, drop-drop) at p in
    let l = simp length-drop at (ap length e.3) in
    (omega (arith, e, l, h), told_at _ _ _ c.at-then-size-rest.ensures)

pub returns : goal.returns
returns c =
    let h = MatchOption-at_some _ _ _ c.in_ok-head.ensures.ok_part c.get.ensures.lookup.0 in
    let p = MatchOption-at_some _ _ _ c.in_ok-kind.ensures.ok_part c.pair.ensures in
    let e = simp (h.2, rest, le4_drop, le8_drop, drop-drop, add-zero) at p in
    let l = simp length-drop at (ap length e.3) in
    (omega (arith, e, l, h), simp (e.1, e.2, e.3) at c.section_of.ensures, omega (arith, e))
