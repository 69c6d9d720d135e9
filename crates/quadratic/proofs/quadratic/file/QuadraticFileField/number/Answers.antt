use Rattle.std.proofs.Common.{◌≡◌, sym, ◌∙◌}
use Rattle.field.proofs.Decided.{same_true, same_false}
use Rattle.quadratic.proofs.Coordinates.{number_below, zero_b}
use Rattle.quadratic.proofs.quadratic.file.QuadraticFileField.number.Goals as goal

pub returns-then-same : goal.returns-then-same
returns-then-same g c =
    let x = c.args.self in
    let O = g.F.Field.ops in
    let z : x.b ≡ O.zero = same_true O x.b c.zero.result c.same.result c.same.ensures c.if-same.true ∙ c.zero.ensures in
    number_below g.met.F.Field.laws x g.F.FileField.prime c.number.result z c.number.ensures

pub returns-else-same : goal.returns-else-same
returns-else-same g c = λ v e.
    let x = c.args.self in
    let O = g.F.Field.ops in
    let z : x.b ≡ O.zero = zero_b g.met.F.Field.laws x v e in
    same_false O x.b c.zero.result c.same.result c.same.ensures c.if-same.false (z ∙ sym c.zero.ensures)
