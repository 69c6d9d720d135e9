use Rattle.std.proofs.Common.{◌≡◌, ◌++◌, length, ap, sym, ◌∙◌, arith}
use lib.ListN.{length-map}
use Rattle.square_rows.specs.Terms.{terms_left}
use Rattle.square_rows.proofs.TermLists.{few_left, first_below}
use Rattle.frames.specs.Little.{little}
use Rattle.frames.proofs.Bytes.{length_little}
use Rattle.writing.specs.Written.{Overwrites, written}
use Rattle.writing.proofs.Writers.{fills_none, fills_both, fills_same, fills_over}
use Rattle.constraints.specs.Circuit.{item_bytes, list_bytes}
use Rattle.square_file.specs.Terms.{item, items}
use Rattle.square_file.specs.Programs.{side_terms}
use Rattle.square_file.proofs.Labels.{items_first, no_items}
use Rattle.square_file.proofs.program.Program.put_list.Goals as goal

pub overflow_add-count : goal.overflow_add-count
overflow_add-count g c =
    let size = ap length c.in-Some.ensures.steps in
    omega (arith, size, c.loop-t.invariant.0, ap length c.terms-t-items.ensures, few_left g.F.Field.ops c.terms-t-items.result)

pub overflow_cast-t : goal.overflow_cast-t
overflow_cast-t g c = omega (arith, first_below g.F.Field.ops c.loop-t.t-iterator c.in-Some.t _ c.in-Some.ensures.steps)

pub loop-t-preserved : goal.loop-t-preserved
loop-t-preserved g c =
    let O = g.F.Field.ops in
    let p = g.F.FileField.prime in
    let t = c.in-Some.t in
    let w = c.loop-t.w in
    let z = c.put_item.new.self in
    let size = ap length c.in-Some.ensures.steps in
    let next = ap (λ ts. item_bytes (items O p ts)) c.in-Some.ensures.steps ∙ items_first (item O p t) (items O p (terms_left O c.next.new.self)) in
    let written = fills_same w z _ _ (ap (λ v. little 4 t.wire ++ little 8 v) c.number_of.ensures) c.put_item.ensures.0 in (
      omega (arith, size, c.loop-t.invariant.0),
      λ end h. c.loop-t.invariant.1 end (fills_same w end _ _ (sym next) (fills_both w z end _ _ written h)),
    )

pub returns : goal.returns
unfolding list_bytes
returns g c =
    let O = g.F.Field.ops in
    let p = g.F.FileField.prime in
    let w0 = c.args.w.now in
    let w1 = c.put_word.new.self in
    let w = c.loop-t.w in
    let z = c.put_word_at.new.self in
    let ts = side_terms O c.args.self.now c.args.side.now in
    let none = c.in-None.ensures.steps.0 in
    let counted : c.loop-t.count ≡ length (items O p ts) = omega (arith, ap length none, c.loop-t.invariant.0, length-map ts (item O p)) in
    let end = ap (λ ts. item_bytes (items O p ts)) none ∙ no_items in
    let count = ap (little 4) counted in
    let place : Overwrites w (length (written w0)) (little 4 c.loop-t.count) z = rw (ap length c.written-count_at.ensures) at c.put_word_at.ensures in
    let all = fills_both w0 w1 w _ _ c.put_word.ensures.0 (c.loop-t.invariant.1 w (fills_same w w _ _ (sym end) (fills_none w))) in
    fills_same w0 z _ _ (ap (λ b. b ++ item_bytes (items O p ts)) count)
    (fills_over w0 w z (little 4 0) (little 4 c.loop-t.count) (item_bytes (items O p ts)) (length_little 4 0 ∙ sym (length_little 4 c.loop-t.count)) all place)
