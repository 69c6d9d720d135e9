use Rattle.std.proofs.Common.{◌+◌, ◌*◌, refl}
use Rattle.sheet.proofs.Powers.{log_up_least}
use Rattle.sheet.proofs.head.Head.n.Goals as goal

pub returns : goal.returns
returns c = record { is = refl; least = let h = c.args.self.now in rw (h.n_is, h.log_n_is) (log_up_least (h.k + 2 * h.rows)) }
