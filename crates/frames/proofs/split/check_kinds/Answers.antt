use Rattle.std.proofs.Common.{◌≡◌, ◌+◌, ◌-◌, ◌≤◌, length, drop, sym, refl, ap, ◌∙◌, arith, length-drop, length-take-le}
use Rattle.std.proofs.lemmas.Result.{err_from_is_err_and}
use Rattle.frames.specs.Little.{le4, le8}
use Rattle.frames.specs.Checks.{past, place_of}
use Rattle.frames.proofs.Faults.{told_at}
use Rattle.frames.proofs.Walk.{framed_step, no_header, no_body, both, sought_here, second}
use Rattle.frames.proofs.Shapes.{not_header, not_body}
use Rattle.frames.proofs.split.check_kinds.Goals as goal

pub returns-in_err-first : goal.returns-in_err-first
returns-in_err-first c =
    let f = framed_step _ _ _ (omega (arith, c.requires.1.0)) c.requires.0 in
    absurd (omega (arith, f.0, c.in_err-first.ensures.0))

pub returns-in_default : goal.returns-in_default
returns-in_default c =
    (no_header _ (not_header _ _ _ c.in_ok-first.ensures.1 c.in_default.not-Header) ∙ sym (told_at _ _ _ c.at.ensures), tt)

pub returns-in_err-second : goal.returns-in_err-second
returns-in_err-second c =
    let a = c.in_ok-first.ensures in
    let f = framed_step _ _ _ (omega (arith, c.requires.1.0)) c.requires.0 in
    let g = framed_step _ _ _ (omega (arith, c.requires.1.0)) f.1 in
    let e = simp a.2 at c.in_err-second.ensures.0 in
    absurd (omega (arith, g.0, e))

pub returns-in_default-second : goal.returns-in_default-second
returns-in_default-second c =
    let a = c.in_ok-first.ensures in
    let s = simp c.in-Header.is at a.1 in
    let b = simp a.2 at c.in_ok-second.ensures in
    (no_body _ s.0 (not_body _ _ _ b.1 c.in_default-second.not-Body) ∙ sym (told_at _ _ _ (simp a.2 at c.at-in_default-second.ensures)), tt)

pub check_others-requires : goal.check_others-requires
check_others-requires c =
    let a = c.in_ok-first.ensures in
    let b = simp a.2 at c.in_ok-second.ensures in
    let f = framed_step _ _ _ (omega (arith, c.requires.1.0)) c.requires.0 in
    let g = framed_step _ _ _ (omega (arith, c.requires.1.0)) f.1 in
    let k : c.args.count - 1 - 1 ≡ c.args.count - 2 = omega arith in
    simp (b.2, ← k) g.1

pub returns-in_err-check_others : goal.returns-in_err-check_others
returns-in_err-check_others c =
    let p = err_from_is_err_and c.from_residual-in_err-check_others.result c.from_residual-in_err-check_others.ensures.1 in
    let a = c.in_ok-first.ensures in
    let s = simp c.in-Header.is at a.1 in
    let b = simp a.2 at c.in_ok-second.ensures in
    let t = simp c.in-Body.is at b.1 in
    rw (p.1, p.2) (both _ s.0 t.0 ∙ (simp (b.2, c.requires.1.1) at c.in_err-check_others.ensures.0), tt)

pub returns : goal.returns
returns c =
    let a = c.in_ok-first.ensures in
    let s = simp c.in-Header.is at a.1 in
    let b = simp a.2 at c.in_ok-second.ensures in
    let t = simp c.in-Body.is at b.1 in
    let xs = c.args.bytes.now in
    let n : 2 ≤ le4 xs 8 = omega (arith, c.requires.1.0, c.requires.1.1) in
    let one : place_of xs 1 ≡ 12 = sought_here xs 1 (le4 xs 8) 12 (omega arith) s.0 in
    let two : place_of xs 2 ≡ past xs 12 = second xs (le4 xs 8) 12 n s.0 t.0 in
    let l = length-take-le (le8 xs (past xs 12 + 4)) (drop (past xs 12 + 12) xs) (simp length-drop (omega (arith, b.0))) in
    let k = length-take-le (le8 xs 16) (drop 24 xs) (simp length-drop (omega (arith, a.0))) in (
      both _ s.0 t.0 ∙ (simp (b.2, c.requires.1.1) at c.in_ok-check_others.ensures.0),
      record {
        header = rw one s.1;
        header_at = rw one refl;
        body = rw two t.1;
        body_at = rw two (ap (λ z. z + 12) a.2);
        header_within = omega (arith, a.0, k, ap length s.1);
        body_within = omega (arith, a.2, b.0, l, ap length t.1);
      },
    )
