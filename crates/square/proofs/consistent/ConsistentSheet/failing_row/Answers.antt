use Rattle.std.proofs.Common.{not, arith, rules, tests}
use Rattle.std.proofs.lemmas.Iterator.{YieldsList-from_range}
use Rattle.std.proofs.lemmas.Iterator.Search.{find_from_yields_List}
use Rattle.transform.specs.Polynomial.{coefficient}
use Rattle.sheet.specs.Outcomes.{shape_of}
use Rattle.square.specs.Rows.{position}
use Rattle.square.proofs.FailingRow.{test, failing_row_found}
use Rattle.square.proofs.consistent.ConsistentSheet.failing_row.Goals as goal

pub returns : goal.returns
returns g c =
    let O = g.F.Field.ops in
    let s = c.args.self.now in
    let S = shape_of s.head.now in
    let y = position O s.used.now in
    let z = coefficient O s.values.now in
    failing_row_found O S y z c.find.result
    (find_from_yields_List (λ i. not (test O S y z i)) _ _ c.find.result c.find.ensures.ran
    (YieldsList-from_range 0 S.N S.N (cc) (omega arith)) (λ x b q k. search (rules, tests)))
