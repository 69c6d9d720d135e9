-- One place more, and once round.
use Rattle.std.proofs.Common.{◌≡◌, ℕ, ◌+◌, ◌%◌, ◌<◌, ◌≤◌, length, slice_index_or, sym, ap, ◌∙◌, mod-lt, mod-eq_of_lt, arith}
use Rattle.std.proofs.Math.Nat.{mod-add-mod, mod_self}
use Rattle.std.proofs.lemmas.List.{get_or_read}
use Rattle.std.proofs.lemmas.List.Edits.{fill_by_more}
use Rattle.transform.specs.Polynomial.{coefficient}
use Rattle.transform.proofs.Tables.{is_table}
use Rattle.square.proofs.public.repeat_first.Goals.{then-at-first, else-at-first}
use Rattle.square.proofs.public.repeat_first.Goals as goal

on : (e n : ℕ) → e % n + 1 < n → e % n + 1 ≡ (e + 1) % n
on e n h = sym (mod-eq_of_lt h) ∙ mod-add-mod e n 1

round : (e n : ℕ) → 0 < n → n ≤ e % n + 1 → 0 ≡ (e + 1) % n
round e n some h =
    let below = mod-lt e some in
    let full : e % n + 1 ≡ n = omega arith in
    sym (mod_self n) ∙ ap (λ k. k % n) (sym full) ∙ mod-add-mod e n 1

pub loop-place-preserved : goal.loop-place-preserved
loop-place-preserved g c =
    let O = g.F.Field.ops in
    let first = c.args.first.now in
    let n = length first in
    let e = c.loop-place.place-index in
    let is = c.loop-place.invariant.0 in
    let next : c.if-at-first.at ≡ (e + 1) % n =
    elim c.if-at-first.branch [
      | then-at-first w ↦ w.at-is ∙ ap (λ k. k + 1) is ∙ on e n (rw (sym is) w.if-at-first.true)
      | else-at-first w ↦ w.at-is ∙ round e n c.requires (rw (sym is) w.if-at-first.false)
    ] in
    let here : c.index-first-at.result ≡ slice_index_or first (e % n) c.index-first-at.result = rw (sym is) c.index-first-at.is in
    let read = get_or_read first (e % n) _ (mod-lt e c.requires) here O.zero in
    (next, rw read (fill_by_more (λ j. coefficient O first (j % n)) c.loop-place.rest e O.zero (omega arith) c.loop-place.invariant.1))

pub returns : goal.returns
returns g c = is_table g.F.Field.ops.zero c.loop-place.rest _ _ c.loop-place.auto.rest (λ j h. c.loop-place.invariant.1 j (omega arith))
