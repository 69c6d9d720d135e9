use Rattle.std.proofs.Common.{ap, ◌∙◌, arith}
use Rattle.loading.specs.Rows.{item_count, rows_ahead}
use Rattle.loading.proofs.Lines.{rows_none, rows_more, row_size, count_line}
use Rattle.loading.proofs.rows.count_items.Goals as goal

pub loop-row-preserved : goal.loop-row-preserved
loop-row-preserved c =
    let e = c.in-Some.ensures.steps in
    let t = e.row in
    let more = rows_more c.loop-row.reader c.next.new.self c.in-Some.row e.kept t.0 t.1 t.2 t.3 in
    let count = ap item_count more ∙ count_line c.in-Some.row (rows_ahead c.next.new.self) in
    let size = row_size c.loop-row.reader.bytes.now c.loop-row.reader.at c.in-Some.row t.1 in
    (e.kept ∙ c.loop-row.invariant.0, omega (arith, c.loop-row.invariant.1, t.2, size), omega (arith, c.loop-row.invariant.2, count))

pub returns : goal.returns
returns c =
    let e = c.in_default.ensures.steps in
    let none = ap item_count (rows_none c.loop-row.reader e.row.1) in
    record { kept = e.kept ∙ c.loop-row.invariant.0; count = omega (arith, c.loop-row.invariant.2, none) }
