use Rattle.std.proofs.Common.{length, rules}
use Rattle.sheet.proofs.Values.{all_same, reset_is}
use Rattle.sheet.proofs.head.calls.reset.Goals as goal

pub returns : goal.returns
returns g c =
    let O = g.F.Field.ops in
    let filled = c.fill_with.ensures in
    let same = all_same _ _ O.zero (λ y q r. search rules) c.fill_with.new.self filled.ran.0 filled.ran.1 in
    rw (c.one.ensures, same, filled.len) (reset_is O (length c.args.values.now) c.requires)
