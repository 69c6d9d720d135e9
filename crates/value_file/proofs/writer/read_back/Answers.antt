use Rattle.std.proofs.Common.{◌≡◌, ◌-◌, ◌++◌, length, take, drop, sym, ap, ◌∙◌, arith}
use native.Mathlib.Nat.{sub-zero}
use Rattle.std.proofs.lemmas.Result.{MatchResult-weaker}
use Rattle.std.proofs.lemmas.Bool.{eq-eqb}
use Rattle.sheet.specs.Outcomes.{shape_of}
use Rattle.sheet.specs.Shape.{columns}
use Rattle.assignments.specs.Assignment.{Encodes}
use Rattle.value_file.specs.ValueFile.{numbers, value_file_bytes}
use Rattle.value_file.proofs.writer.read_back.Goals as goal

pub returns : goal.returns
returns g c =
    let O = g.F.Field.ops in
    let p = g.F.FileField.prime in
    let vs = c.args.extended.now in
    let S = shape_of c.args.head.now in
    let size = c.in_ok-size.size in
    let w = c.in_ok-size.ensures in
    let places : columns S ≡ length c.args.table.now = omega arith in
    let file : Encodes (take (size - 0) c.write_values.new.out) p (length c.args.table.now) (numbers O p vs) = rw (sub-zero, ← places) w.reads.0 in
    let out = w.written.1.1 ∙ ap (λ n. value_file_bytes O p vs ++ drop n c.args.out.now) w.written.1.0 in
    MatchResult-weaker c.read.result c.read.ensures.assignment
    (λ _ h. (rw (eq-eqb _ _ (sym places)) w.written.0, (out, h.1 (numbers O p vs) file ∙ w.reads.1)))
    (λ e h. absurd (h (numbers O p vs) file))
