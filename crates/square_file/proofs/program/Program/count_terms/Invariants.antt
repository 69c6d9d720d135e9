use Rattle.std.proofs.Common.{◌≡◌, ◌+◌, length}
use Rattle.square_rows.specs.Terms.{terms_left}
use Rattle.square_file.specs.Terms.{all_plain}
use Rattle.square_file.specs.Programs.{side_terms}
use Rattle.square_file.proofs.program.Program.count_terms.Given as goal

abbrev pub invariant-loop-t : goal.invariant-loop-t
invariant-loop-t g l =
    let O = g.F.Field.ops in
    let p = g.F.FileField.prime in
    let all = side_terms O l.self l.side in
    let rest = terms_left O l.t-iterator in
    (all_plain O p rest ≡ all_plain O p all) × (l.count + length rest ≡ length all)
