use Rattle.std.proofs.Common.{◌≡◌, ◌+◌, ◌-◌, ◌*◌, ◌≤◌, length, take, ap, ◌∙◌, arith, length-drop}
use native.Mathlib.Nat.{sub-zero}
use Rattle.std.proofs.lemmas.Option.{MatchOption-at_none, MatchOption-at_some}
use Rattle.std.proofs.lemmas.Result.{err_from_is_err_and}
use Rattle.frames.proofs.Faults.{told_at, missing}
use Rattle.frames.specs.Little.{le4, part}
use Rattle.constraints.proofs.Lists.{first_word, inner}
use Rattle.constraints.proofs.rows.list_at.Goals as goal

pub returns-in_err-list : goal.returns-in_err-list
returns-in_err-list c =
    let p = err_from_is_err_and c.from_residual-in_err-list.result c.from_residual-in_err-list.ensures.1 in
    let m = missing _ _ _ c.in_err-list.ensures.value in
    let w = MatchOption-at_some _ _ _ c.in_ok-count.ensures.ok_part c.word.ensures in
    let n = MatchOption-at_none _ _ m.0 c.get.ensures.lookup.0 in
    let f = first_word c.args.bytes.now c.args.at (c.args.stop - c.args.at) w.0 in
    let l = length-drop 4 (part c.args.bytes.now c.args.at (c.args.stop - c.args.at)) in
    rw (p.1, p.2, m.1) (omega (arith, n, w, f, l, ap length w.2), told_at _ _ _ c.at-2.ensures)

pub returns : goal.returns
returns c =
    let w = MatchOption-at_some _ _ _ c.in_ok-count.ensures.ok_part c.word.ensures in
    let n = MatchOption-at_some _ _ _ c.in_ok-list.ensures.ok_part c.get.ensures.lookup.0 in
    let size = c.args.stop - c.args.at in
    let f = first_word c.args.bytes.now c.args.at size w.0 in
    let l = length-drop 4 (part c.args.bytes.now c.args.at size) in
    let e : c.in_ok-count.count ≡ le4 c.args.bytes.now c.args.at = w.1 ∙ f.0 in
    let h : 4 + 12 * c.in_ok-count.count ≤ size = omega (arith, n.1, w, f, l, ap length w.2) in (
      simp sub-zero at n.2 ∙ ap (take (12 * c.in_ok-count.count)) w.2 ∙ inner c.args.bytes.now c.args.at size 4 (12 * c.in_ok-count.count) h ∙ ap (λ k. part c.args.bytes.now (c.args.at + 4) (12 * k)) e,
      omega (arith, e),
      omega (arith, h),
    )
