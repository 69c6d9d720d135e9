use Rattle.loading.proofs.Circuits.{loads}
use Rattle.loading.proofs.load.load.Goals as goal

pub returns : goal.returns
returns g c =
    record {
      any = c.loaded.ensures;
      circuit = loads g.F.Field.ops g.F.FileField.prime c.args.reader c.args.entries.now c.args.values.now c.loaded.result c.loaded.new.entries c.loaded.new.values c.loaded.ensures;
    }
