use Rattle.std.proofs.Common.{◌*◌, refl}
use Rattle.sheet.proofs.Powers.{log_up_least}
use Rattle.sheet.proofs.head.Head.k.Goals as goal

pub returns : goal.returns
returns c = record { is = refl; least = let h = c.args.self.now in rw h.k_is (log_up_least (2 * h.publics)) }
