use Rattle.quadratic.proofs.Coordinates.{ones_vanish, ones_distinct}
use Rattle.quadratic.proofs.quadratic.file.QuadraticFileField.prime.Goals as goal

pub returns : goal.returns
returns g c =
    let below = c.prime.ensures in
    let L = g.met.F.Field.laws in
    let p = g.F.FileField.prime in
    record { value = below.value; vanishes = ones_vanish L p below.vanishes; distinct = ones_distinct L p below.distinct }
