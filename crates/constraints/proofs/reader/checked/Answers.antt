use Rattle.std.proofs.Common.{refl, ◌∙◌, arith}
use Rattle.std.proofs.lemmas.Result.{err_from_is_err_and}
use Rattle.frames.proofs.Faults.{stops, goes}
use Rattle.constraints.specs.Opened.{opened}
use Rattle.constraints.proofs.reader.checked.Goals as goal

pub returns-in_err-layout : goal.returns-in_err-layout
unfolding opened
returns-in_err-layout c =
    let p = err_from_is_err_and c.from_residual.result c.from_residual.ensures.1 in
    rw (p.1, p.2) (stops _ _ _ c.in_err-layout.ensures.verdict.0, tt)

pub returns-in_err-header : goal.returns-in_err-header
unfolding opened
returns-in_err-header c =
    let p = err_from_is_err_and c.from_residual-in_err-header.result c.from_residual-in_err-header.ensures.1 in
    let s = c.in_ok-layout.ensures.verdict in
    rw (p.1, p.2) (goes _ _ s.0 ∙ stops _ _ _ (simp (s.1.header, s.1.header_at) at c.in_err-header.ensures.0), tt)

pub returns-in_err-check_lists : goal.returns-in_err-check_lists
unfolding opened
returns-in_err-check_lists c =
    let p = err_from_is_err_and c.from_residual-in_err-check_lists.result c.from_residual-in_err-check_lists.ensures.1 in
    let s = c.in_ok-layout.ensures.verdict in
    let h = simp (s.1.header, s.1.header_at) at c.in_ok-header.ensures in
    rw (p.1, p.2) (goes _ _ s.0 ∙ goes _ _ h.0 ∙ (simp (s.1.body, s.1.body_at, h.1.0.wires, h.1.0.rows, h.1.1) at c.in_err-check_lists.ensures.0), tt)

pub returns : goal.returns
unfolding opened
returns c =
    let s = c.in_ok-layout.ensures.verdict in
    let h = simp (s.1.header, s.1.header_at) at c.in_ok-header.ensures in (
      goes _ _ s.0 ∙ goes _ _ h.0 ∙ (simp (s.1.body, s.1.body_at, h.1.0.wires, h.1.0.rows, h.1.1) at c.in_ok-check_lists.ensures.0),
      record {
        bytes = refl;
        numbers = h.1.0;
        prime_at = omega (arith, s.1.header_at);
        first = s.1.body_at;
        stop = simp (s.1.body, s.1.body_at);
        start = refl;
      },
    )
