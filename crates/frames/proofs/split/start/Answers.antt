use Rattle.std.proofs.Common.{sym, ◌∙◌, arith}
use Rattle.std.proofs.lemmas.Option.{MatchOption-at_none, MatchOption-at_some}
use Rattle.std.proofs.lemmas.Result.{err_from_is_err_and}
use Rattle.frames.proofs.Numbers.{left}
use Rattle.frames.proofs.Faults.{told_at, missing}
use Rattle.frames.proofs.Walk.{no_start, other_start, no_version, other_version, no_count, few, begun}
use Rattle.frames.proofs.split.start.Goals as goal

pub returns-in_err-magic : goal.returns-in_err-magic
returns-in_err-magic c =
    let p = err_from_is_err_and c.from_residual.result c.from_residual.ensures.1 in
    let m = missing _ _ _ c.in_err-magic.ensures.value in
    rw (p.1, p.2, m.1) (no_start _ _ _ (MatchOption-at_none _ _ m.0 c.word.ensures) ∙ sym (told_at _ _ _ c.at.ensures), tt)

pub returns-then-magic-format : goal.returns-then-magic-format
returns-then-magic-format c =
    let a = MatchOption-at_some _ _ _ c.in_ok-magic.ensures.ok_part c.word.ensures in
    (other_start _ _ _ (λ e. c.if-magic-format.true (a.1 ∙ e)) ∙ sym (told_at _ _ _ c.at-then-magic-format.ensures), tt)

pub returns-in_err-version : goal.returns-in_err-version
returns-in_err-version c =
    let p = err_from_is_err_and c.from_residual-in_err-version.result c.from_residual-in_err-version.ensures.1 in
    let m = missing _ _ _ c.in_err-version.ensures.value in
    let a = MatchOption-at_some _ _ _ c.in_ok-magic.ensures.ok_part c.word.ensures in
    let l = left c.args.bytes.now _ 4 a.2 in
    let n = MatchOption-at_none _ _ m.0 c.word-2.ensures in
    rw (p.1, p.2, m.1) (no_version _ _ _ a.0 (sym a.1 ∙ c.if-magic-format.false) (omega (arith, l.size, n)) ∙ sym (told_at _ _ _ c.at-2.ensures), tt)

pub returns-then-version-format : goal.returns-then-version-format
returns-then-version-format c =
    let a = MatchOption-at_some _ _ _ c.in_ok-magic.ensures.ok_part c.word.ensures in
    let l = left c.args.bytes.now _ 4 a.2 in
    let b = MatchOption-at_some _ _ _ c.in_ok-version.ensures.ok_part c.word-2.ensures in
    (other_version _ _ _ a.0 (sym a.1 ∙ c.if-magic-format.false) (λ e. c.if-version-format.true (b.1 ∙ l.word ∙ e)) ∙ sym (told_at _ _ _ c.at-then-version-format.ensures), tt)

pub returns-in_err-count : goal.returns-in_err-count
returns-in_err-count c =
    let p = err_from_is_err_and c.from_residual-in_err-count.result c.from_residual-in_err-count.ensures.1 in
    let m = missing _ _ _ c.in_err-count.ensures.value in
    let a = MatchOption-at_some _ _ _ c.in_ok-magic.ensures.ok_part c.word.ensures in
    let l = left c.args.bytes.now _ 4 a.2 in
    let b = MatchOption-at_some _ _ _ c.in_ok-version.ensures.ok_part c.word-2.ensures in
    let k = left c.args.bytes.now _ 8 (l.next 4 _ b.2) in
    let n = MatchOption-at_none _ _ m.0 c.word-3.ensures in
    rw (p.1, p.2, m.1) (
      no_count _ _ _ a.0 (sym a.1 ∙ c.if-magic-format.false) (omega (arith, l.size, a.0, b.0)) (sym (b.1 ∙ l.word) ∙ c.if-version-format.false)
          (omega (arith, k.size, n))
          ∙ sym (told_at _ _ _ c.at-3.ensures),
      tt,
    )

pub returns-then-count-lt2 : goal.returns-then-count-lt2
returns-then-count-lt2 c =
    let a = MatchOption-at_some _ _ _ c.in_ok-magic.ensures.ok_part c.word.ensures in
    let l = left c.args.bytes.now _ 4 a.2 in
    let b = MatchOption-at_some _ _ _ c.in_ok-version.ensures.ok_part c.word-2.ensures in
    let k = left c.args.bytes.now _ 8 (l.next 4 _ b.2) in
    let n = MatchOption-at_some _ _ _ c.in_ok-count.ensures.ok_part c.word-3.ensures in (
      few _ _ _ a.0 (sym a.1 ∙ c.if-magic-format.false) (omega (arith, l.size, a.0, b.0)) (sym (b.1 ∙ l.word) ∙ c.if-version-format.false)
          (omega (arith, k.size, n.0)) (omega (arith, n.1, k.word))
          ∙ sym (told_at _ _ _ c.at-then-count-lt2.ensures),
      tt,
    )

pub returns : goal.returns
returns c =
    let a = MatchOption-at_some _ _ _ c.in_ok-magic.ensures.ok_part c.word.ensures in
    let l = left c.args.bytes.now _ 4 a.2 in
    let b = MatchOption-at_some _ _ _ c.in_ok-version.ensures.ok_part c.word-2.ensures in
    let k = left c.args.bytes.now _ 8 (l.next 4 _ b.2) in
    let n = MatchOption-at_some _ _ _ c.in_ok-count.ensures.ok_part c.word-3.ensures in (
      begun _ _ _ a.0 (sym a.1 ∙ c.if-magic-format.false) (omega (arith, l.size, a.0, b.0)) (sym (b.1 ∙ l.word) ∙ c.if-version-format.false)
          (omega (arith, k.size, n.0)) (omega (arith, n.1, k.word)),
      (omega (arith, k.size, n.0), n.1 ∙ k.word, c.if-count-lt2.false),
    )
