use Rattle.std.proofs.Common.{◌≡◌, ◌+◌, ◌*◌, length, drop, refl, ap, ◌∙◌, arith, drop-drop}
use Rattle.std.proofs.lemmas.Option.{MatchOption-at_some}
use Rattle.field.specs.Operations.{ones}
use Rattle.frames.specs.Little.{le8}
use Rattle.frames.proofs.Numbers.{le8_drop}
use Rattle.assignments.proofs.Walk.{value_below}
use Rattle.assignments.proofs.Filled.{none_yet, one_more, all_there}
use Rattle.assignments.proofs.reader.fill.Goals as goal

pub loop-place-init : goal.loop-place-init
loop-place-init g c = (refl, none_yet _ _ _)

pub unwrap-requires : goal.unwrap-requires
unwrap-requires g c =
    let i = c.loop-place.place-index in
    let v = MatchOption-at_some _ _ _ c.unwrap-value.ensures c.long.ensures in
    let e = v.1 ∙ ap (λ l. le8 l 0) c.loop-place.invariant.0 ∙ le8_drop c.args.payload.now (8 * i) 0 in
    let k : 8 * i + 0 ≡ 0 + 8 * i = omega arith in
    let b = value_below c.args.payload.now _ _ _ i c.requires.1 (omega arith) in
    grind (arith, c.element.ensures, rw k at e, b)

pub loop-place-preserved : goal.loop-place-preserved
loop-place-preserved g c =
    let i = c.loop-place.place-index in
    let v = MatchOption-at_some _ _ _ c.unwrap-value.ensures c.long.ensures in
    let x = MatchOption-at_some _ _ _ c.unwrap.ensures c.element.ensures in
    let e = v.1 ∙ ap (λ l. le8 l 0) c.loop-place.invariant.0 ∙ le8_drop c.args.payload.now (8 * i) 0 in
    let k : 8 * i + 0 ≡ 0 + 8 * i = omega arith in
    let more : 8 * i + 8 ≡ 8 * (i + 1) = omega arith in (
      v.2 ∙ ap (drop 8) c.loop-place.invariant.0 ∙ drop-drop 8 (8 * i) c.args.payload.now ∙ ap (λ n. drop n c.args.payload.now) more,
      one_more (ones g.F.Field.ops) _ _ _ _ _ (omega arith) c.loop-place.invariant.1 (x.1 ∙ ap (ones g.F.Field.ops) (rw k at e)),
    )

pub returns : goal.returns
returns g c =
    let z : c.loop-place.place-index ≡ length c.args.table.now = omega arith in
    all_there (ones g.F.Field.ops) _ _ c.loop-place.table _ c.loop-place.auto.table (rw z at c.loop-place.invariant.1)
