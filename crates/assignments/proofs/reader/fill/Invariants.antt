use Rattle.std.proofs.Common.{◌≡◌, ◌*◌, map, take, drop}
use Rattle.field.specs.Operations.{ones}
use Rattle.assignments.specs.Assigned.{values}
use Rattle.assignments.proofs.reader.fill.Given as goal

abbrev pub invariant-loop-place : goal.invariant-loop-place
invariant-loop-place g l =
    (l.rest ≡ drop (8 * l.place-index) l.payload)
    × (take l.place-index l.table ≡ map (ones g.F.Field.ops) (values l.payload l.place-index 0))
