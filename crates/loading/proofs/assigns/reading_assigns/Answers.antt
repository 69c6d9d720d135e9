use Rattle.loading.proofs.Wires.{numbers_assign, reading_assigns_lem}
use Rattle.loading.proofs.assigns.reading_assigns.Goals as goal

pub returns : goal.returns
returns g c =
    record {
      numbers = numbers_assign g.F.Field.ops g.met.F.Field.laws;
      reading = reading_assigns_lem g.F.Field.ops g.met.F.Field.laws g.F.FileField.prime;
    }
