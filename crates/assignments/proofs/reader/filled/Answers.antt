use Rattle.std.proofs.Common.{map, length, sym, refl, ap, ◌∙◌, inl, inr}
use Rattle.std.proofs.lemmas.Result.{err_from_is_err_and}
use Rattle.field.specs.Operations.{ones}
use Rattle.frames.proofs.Faults.{told_at}
use Rattle.assignments.specs.Assigned.{values}
use Rattle.assignments.proofs.Walk.{too_few, too_long, room}
use Rattle.assignments.proofs.Parts.{values_here, valued_here}
use Rattle.assignments.proofs.reader.filled.Goals as goal

pub returns-then-places-lt1 : goal.returns-then-places-lt1
returns-then-places-lt1 g c = (
  elim c.then-places-lt1.either [
    | inl h ↦ too_few _ _ _ h ∙ sym (told_at _ _ _ c.at.ensures)
    | inr h ↦ too_long _ _ _ h.1 ∙ sym (told_at _ _ _ c.at.ensures)
  ],
  refl,
)

pub returns-in_err-payload : goal.returns-in_err-payload
returns-in_err-payload g c =
    let p = err_from_is_err_and c.from_residual.result c.from_residual.ensures.1 in
    let e = simp c.prime.ensures.value at c.in_err-payload.ensures.0 in
    rw (p.1, p.2) (room _ _ _ c.if-places-lt1.false c.if-places-gt3072.false ∙ e, refl)

pub fill-requires : goal.fill-requires
fill-requires g c =
    let e = simp c.prime.ensures.value at c.in_ok-payload.ensures in
    (e.1.0, rw e.1.1 (valued_here _ _ _ _ e.1.2))

pub returns : goal.returns
returns g c =
    let e = simp c.prime.ensures.value at c.in_ok-payload.ensures in (
      room _ _ _ c.if-places-lt1.false c.if-places-gt3072.false ∙ e.0,
      c.fill.ensures ∙ ap (map (ones g.F.Field.ops)) (ap (λ b. values b (length c.args.table.now) 0) e.1.1 ∙ values_here _ _ _),
    )
