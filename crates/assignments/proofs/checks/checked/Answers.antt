use Rattle.std.proofs.Common.{◌*◌, sym, ap, ◌∙◌}
use Rattle.std.proofs.lemmas.Result.{err_from_is_err_and}
use Rattle.std.proofs.lemmas.Option.{MatchOption-at_some}
use Rattle.frames.specs.Little.{part}
use Rattle.frames.proofs.Faults.{stops, goes, told_at}
use Rattle.assignments.specs.Assigned.{content}
use Rattle.assignments.proofs.Walk.{first_out, first_one}
use Rattle.assignments.proofs.Parts.{by_length, front}
use Rattle.assignments.proofs.checks.checked.Goals as goal

pub returns-in_err-layout : goal.returns-in_err-layout
unfolding content
returns-in_err-layout c =
    let p = err_from_is_err_and c.from_residual.result c.from_residual.ensures.1 in
    rw (p.1, p.2) (stops _ _ _ c.in_err-layout.ensures.verdict.0, tt)

pub returns-in_err-check_header : goal.returns-in_err-check_header
unfolding content
returns-in_err-check_header c =
    let p = err_from_is_err_and c.from_residual-in_err-check_header.result c.from_residual-in_err-check_header.ensures.1 in
    let s = c.in_ok-layout.ensures.verdict in
    rw (p.1, p.2) (goes _ _ s.0 ∙ stops _ _ _ (simp (s.1.header, s.1.header_at, s.1.body, s.1.body_at) at c.in_err-check_header.ensures.0), tt)

pub returns-then-first-ne1 : goal.returns-then-first-ne1
unfolding content
returns-then-first-ne1 c =
    let s = c.in_ok-layout.ensures.verdict in
    let h = simp (s.1.header, s.1.header_at, s.1.body, s.1.body_at) at c.in_ok-check_header.ensures.0 in
    let b = by_length c.args.bytes.now _ _ c.args.places _ s.1.body c.in_ok-check_header.ensures.1 in
    let f = MatchOption-at_some _ _ _ c.unwrap-first.ensures c.long.ensures in
    let v = f.1 ∙ (front _ _ _ _ b c.in_ok-check_header.ensures.1 f.0).value in
    (goes _ _ s.0 ∙ goes _ _ h ∙ first_out _ _ _ (λ e. c.if-first-ne1.true (v ∙ e)) ∙ sym (told_at _ _ _ (simp s.1.body_at at c.at.ensures)), tt)

pub returns-in_err-check_values : goal.returns-in_err-check_values
unfolding content
returns-in_err-check_values c =
    let p = err_from_is_err_and c.from_residual-in_err-check_values.result c.from_residual-in_err-check_values.ensures.1 in
    let s = c.in_ok-layout.ensures.verdict in
    let h = simp (s.1.header, s.1.header_at, s.1.body, s.1.body_at) at c.in_ok-check_header.ensures.0 in
    let l = c.in_ok-check_header.ensures.1 in
    let b = by_length c.args.bytes.now _ _ c.args.places _ s.1.body l in
    let f = MatchOption-at_some _ _ _ c.unwrap-first.ensures c.long.ensures in
    let v = f.1 ∙ (front _ _ _ _ b l f.0).value in
    let t = c.in_err-check_values.ensures c.args.bytes.now c.args.places l (b ∙ ap (λ k. part c.args.bytes.now k (c.args.places * 8)) (sym s.1.body_at)) in
    rw (p.1, p.2) (goes _ _ s.0 ∙ goes _ _ h ∙ first_one _ _ _ (sym v ∙ c.if-first-ne1.false) ∙ (simp s.1.body_at at t.0), tt)

pub returns : goal.returns
unfolding content
returns c =
    let s = c.in_ok-layout.ensures.verdict in
    let h = simp (s.1.header, s.1.header_at, s.1.body, s.1.body_at) at c.in_ok-check_header.ensures.0 in
    let l = c.in_ok-check_header.ensures.1 in
    let b = by_length c.args.bytes.now _ _ c.args.places _ s.1.body l in
    let f = MatchOption-at_some _ _ _ c.unwrap-first.ensures c.long.ensures in
    let v = f.1 ∙ (front _ _ _ _ b l f.0).value in
    let t = c.in_ok-check_values.ensures c.args.bytes.now c.args.places l (b ∙ ap (λ k. part c.args.bytes.now k (c.args.places * 8)) (sym s.1.body_at)) in
    let e = simp s.1.body_at at t.0 in
    (goes _ _ s.0 ∙ goes _ _ h ∙ first_one _ _ _ (sym v ∙ c.if-first-ne1.false) ∙ e, (l, b, e))
