use Rattle.std.proofs.Common.{◌≡◌, ℕ, ◌+◌, ◌-◌, ◌*◌, ◌++◌, length, take, drop, Some, sym, refl, ap, ◌∙◌, ap₂, arith}
use Rattle.std.proofs.lemmas.Option.{MatchOption-at_some}
use Rattle.refusal.specs.Numbers.{number_of}
use Rattle.sheet.specs.Outcomes.{shape_of}
use Rattle.square.specs.Rows.{position}
use Rattle.square.proofs.Heads.{n_same, columns_same}
use Rattle.constraints.specs.Circuit.{Encodes}
use Rattle.square_file.specs.SquareFile.{square_circuit, square_file_bytes}
use Rattle.square_file.specs.Outcomes.{square_file_due}
use Rattle.square_file.proofs.FileParts.{length_square}
use Rattle.square_file.proofs.Encoded.{encodes, front}
use Rattle.square_file.proofs.Dues.{too_short, nothing_due}
use Rattle.square_file.proofs.writer.write_program.Goals as goal

pub returns-then-out-length : goal.returns-then-out-length
returns-then-out-length g c =
    let O = g.F.Field.ops in
    let p = g.F.FileField.prime in
    let h = c.args.head.now in
    let S = shape_of h in
    let all = c.args.entries.now in
    let used = take (c.used.result - 0) all in
    let count : c.used.result - 0 ≡ h.used = omega (arith, c.used.ensures) in
    let rows = MatchOption-at_some _ _ _ c.in_ok-size.ensures.ok_part c.rows_size.ensures in
    let size = length_square O p S (position O used) in
    let due = too_short O p S used (length all) (length c.args.out.now) (omega arith) (sym c.if-not-are_inside.ensures) rows.0
    (omega (arith, size, rows.1, columns_same h, c.columns.ensures.is, c.if-out-length.true)) in
    let told = c.at-then-out-length.ensures in
    record {
      written = (
        ap (λ k. square_file_due O p S (length all) (length c.args.out.now) (take k all)) (sym count) ∙ due ∙ sym (ap₂ (λ r a. Some (number_of r, a)) told.0 told.1),
        refl,
      );
      readable = tt;
    }

pub write-requires-clause-room : goal.write-requires-clause-room
write-requires-clause-room g c =
    let h = c.args.head.now in
    let size = length_square g.F.Field.ops g.F.FileField.prime (shape_of h) (position g.F.Field.ops (take (c.used.result - 0) c.args.entries.now)) in
    let rows = MatchOption-at_some _ _ _ c.in_ok-size.ensures.ok_part c.rows_size.ensures in
    omega (arith, size, rows.1, columns_same h, c.columns.ensures.is, c.if-out-length.false)

pub returns : goal.returns
returns g c =
    let O = g.F.Field.ops in
    let p = g.F.FileField.prime in
    let h = c.args.head.now in
    let S = shape_of h in
    let all = c.args.entries.now in
    let out = c.args.out.now in
    let used = take (c.used.result - 0) all in
    let t = position O used in
    let count : c.used.result - 0 ≡ h.used = omega (arith, c.used.ensures) in
    let rows = MatchOption-at_some _ _ _ c.in_ok-size.ensures.ok_part c.rows_size.ensures in
    let size = length_square O p S t in
    let k : ℕ = 88 + c.in_ok-size.size + 8 * c.columns.result in
    let long : k ≡ length (square_file_bytes O p S t) = omega (arith, size, rows.1, columns_same h, c.columns.ensures.is) in
    let due = nothing_due O p S used (length all) (length out) (omega arith) (sym c.if-not-are_inside.ensures) rows.0 (omega (arith, long, c.if-out-length.false)) in
    let whole : c.write.new.out ≡ square_file_bytes O p S t ++ drop k out = c.write.ensures.file ∙ ap (λ m. square_file_bytes O p S t ++ drop m out) (sym long) in
    let coded : Encodes (square_file_bytes O p S t) p (square_circuit O p S t) =
    encodes O p S t c.write.ensures.small
    (omega (arith, h.wires_most, h.publics_most, h.rows_most))
    (omega (arith, n_same h, h.n_most))
    h.publics_some h.publics_within
    (omega (arith, rows.1, rows.2)) rows.0 in
    let start : take k c.write.new.out ≡ square_file_bytes O p S t = ap (λ l. take k l) whole ∙ front O p S t out k k long in
    let read : Encodes (take k c.write.new.out) p (square_circuit O p S t) = rw start coded in
    record {
      written = (
        ap (λ j. square_file_due O p S (length all) (length out) (take j all)) (sym count) ∙ due,
        (
          long ∙ ap (λ j. length (square_file_bytes O p S (position O (take j all)))) count,
          whole ∙ ap (λ j. square_file_bytes O p S (position O (take j all)) ++ drop k out) count,
        ),
      );
      readable = rw count at read;
    }
