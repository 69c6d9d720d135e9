use Rattle.quadratic.specs.Doubled.{pair}
use Rattle.quadratic.proofs.Coordinates.{from_number}
use Rattle.quadratic.proofs.quadratic.file.QuadraticFileField.element.Goals as goal

pub returns : goal.returns
returns g c =
    let told = c.in_ok-a.ensures in
    let made = from_number g.met.F.Field.laws (pair c.in_ok-a.a c.zero.result) c.args.v c.zero.ensures told.1 in
    (told.0, cc)
