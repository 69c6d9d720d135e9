use Rattle.std.proofs.Common.{arith}
use Rattle.std.proofs.lemmas.List.Edits.{fill_by_more}
use Rattle.transform.proofs.Tables.{is_table}
use Rattle.transform.specs.Polynomial.{coefficient}
use Rattle.sheet.specs.Outcomes.{shape_of}
use Rattle.square.specs.Rows.{position}
use Rattle.square.specs.Program.{extended_at, extended}
use Rattle.square.proofs.consistent.ConsistentSheet.write_values.Goals as goal

pub loop-w-preserved : goal.loop-w-preserved
loop-w-preserved g c =
    let O = g.F.Field.ops in
    let s = c.args.self.now in
    rw c.value_of_wire.ensures
    (fill_by_more (extended_at O (shape_of s.head.now) (position O s.used.now) (coefficient O s.values.now)) c.loop-w.out c.loop-w.w O.zero (omega arith) c.loop-w.invariant)

pub returns : goal.returns
unfolding extended
returns g c = is_table g.F.Field.ops.zero c.loop-w.out _ _ (omega arith) (λ i k. c.loop-w.invariant i (omega arith))
