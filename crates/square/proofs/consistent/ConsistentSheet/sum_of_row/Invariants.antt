use Rattle.std.proofs.Common.{◌≡◌, take}
use Rattle.transform.specs.Polynomial.{coefficient}
use Rattle.sheet.specs.Matrix.{number_of}
use Rattle.square.proofs.Entries.{pass}
use Rattle.square.proofs.consistent.ConsistentSheet.sum_of_row.Given as goal

abbrev pub invariant-loop-e : goal.invariant-loop-e
invariant-loop-e g l =
    let O = g.F.Field.ops in
    l.sum ≡ pass O (number_of l.matrix) l.row (coefficient O l.self.values.now) (take l.e-index l.self.used.now)
