use Rattle.std.proofs.Common.{◌&&◌, length, sym, ap, ◌∙◌, arith}
use Rattle.sheet.specs.Shape.{columns}
use Rattle.square_rows.specs.Terms.{terms_left}
use Rattle.square_rows.specs.Combined.{combined}
use Rattle.square_rows.proofs.TermLists.{terms_most}
use Rattle.writing.proofs.Numbered.{some_numbered, none_numbered}
use Rattle.square_file.specs.Terms.{all_plain}
use Rattle.square_file.specs.Programs.{shape, entries}
use Rattle.square_file.proofs.program.Program.count_terms.Goals as goal

pub overflow_add-count : goal.overflow_add-count
overflow_add-count g c =
    let O = g.F.Field.ops in
    let P = c.args.self.now in
    let h = P.head.now in
    let size = ap length c.in-Some.ensures.steps in
    omega (arith, size, c.loop-t.invariant.1, terms_most O (columns (shape P)) 0 (combined O (shape P) (entries O P) c.args.side.now), h.wires_most, h.publics_most, h.rows_most)

pub returns-in_err-plain_number : goal.returns-in_err-plain_number
returns-in_err-plain_number g c =
    let O = g.F.Field.ops in
    let p = g.F.FileField.prime in
    let none = none_numbered O p c.in-Some.t.coefficient (sym c.in_err-plain_number.ensures) in
    rw c.from_residual.ensures
    (sym c.loop-t.invariant.0 ∙ ap (all_plain O p) c.in-Some.ensures.steps ∙ ap (λ b. b && all_plain O p (terms_left O c.next.new.self)) none)

pub loop-t-preserved : goal.loop-t-preserved
loop-t-preserved g c =
    let O = g.F.Field.ops in
    let p = g.F.FileField.prime in
    let next = c.in-Some.ensures.steps in
    let some = some_numbered O p c.in-Some.t.coefficient c.in_ok-plain_number.field-0 (sym c.in_ok-plain_number.ensures) in
    let size = ap length next in (
      sym (ap (all_plain O p) next ∙ ap (λ b. b && all_plain O p (terms_left O c.next.new.self)) some.0) ∙ c.loop-t.invariant.0,
      omega (arith, size, c.loop-t.invariant.1),
    )

pub returns : goal.returns
returns g c =
    let O = g.F.Field.ops in
    let p = g.F.FileField.prime in
    let P = c.args.self.now in
    let end = c.in-None.ensures.steps.0 in
    let size = ap length end in (
      sym c.loop-t.invariant.0 ∙ ap (all_plain O p) end,
      omega (arith, size, c.loop-t.invariant.1),
      omega (arith, size, c.loop-t.invariant.1, terms_most O (columns (shape P)) 0 (combined O (shape P) (entries O P) c.args.side.now)),
    )
