use Rattle.std.proofs.Common.{◌≡◌, ◌+◌, ◌*◌, length, ◌++◌, drop, take, sym, refl, ap, ◌∙◌, arith}
use Rattle.frames.proofs.Faults.{told_at}
use Rattle.sheet.specs.Outcomes.{shape_of}
use Rattle.sheet.specs.Shape.{columns}
use Rattle.value_file.specs.ValueFile.{value_file_bytes}
use Rattle.value_file.proofs.Parts.{length_values}
use Rattle.value_file.proofs.Readable.{numbers_right, encodes, front}
use Rattle.value_file.proofs.Dues.{starts, starts_one, too_short, nothing_due}
use Rattle.value_file.proofs.writer.write_values.Goals as goal

pub returns-then-out-size : goal.returns-then-out-size
returns-then-out-size g c =
    let O = g.F.Field.ops in
    let p = g.F.FileField.prime in
    let vs = c.args.extended.now in
    let S = shape_of c.args.head.now in
    let first = starts O p S vs c.index-extended-0.result c.one.result (omega arith) c.index-extended-0.is c.one.ensures c.if-not-same.ensures in
    let due = too_short O p S vs (omega arith) first (sym c.if-not-are_plain.ensures) (length c.args.out.now) (omega arith) in
    record { written = (due ∙ sym (told_at _ _ _ c.at-then-out-size.ensures), refl); reads = tt }

pub write-requires-clause-room : goal.write-requires-clause-room
write-requires-clause-room g c = omega (arith, length_values g.F.Field.ops g.F.FileField.prime c.args.extended.now)

pub returns : goal.returns
returns g c =
    let O = g.F.Field.ops in
    let p = g.F.FileField.prime in
    let vs = c.args.extended.now in
    let S = shape_of c.args.head.now in
    let n = 52 + 8 * length vs in
    let size : length vs ≡ columns S = omega arith in
    let first = starts O p S vs c.index-extended-0.result c.one.result (omega arith) c.index-extended-0.is c.one.ensures c.if-not-same.ensures in
    let plain = sym c.if-not-are_plain.ensures in
    let due = nothing_due O p S vs size first plain (length c.args.out.now) (omega arith) in
    let long : n ≡ length (value_file_bytes O p vs) = sym (length_values O p vs) in
    let file_is : c.write.new.out ≡ value_file_bytes O p vs ++ drop n c.args.out.now = c.write.ensures ∙ ap (λ m. value_file_bytes O p vs ++ drop m c.args.out.now) (sym long) in
    let there = ap (λ l. take n l) file_is ∙ front O p vs c.args.out.now n n long in
    let file = encodes O p g.met.F.Field.laws c.prime.ensures.distinct (omega (arith, c.prime.ensures.value, c.prime.type_inv)) vs (columns S) size (omega arith) (omega arith) (starts_one O p S vs first) plain in
    record {
      written = (due, (long, file_is));
      reads = (rw there file, (numbers_right O p vs plain).1);
    }
