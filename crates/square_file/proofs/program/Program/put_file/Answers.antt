use Rattle.std.proofs.Common.{◌≡◌, ◌*◌, [], ◌∷◌, ◌++◌, length, sym, ◌∙◌, refl}
use Rattle.transform.specs.Polynomial.{table}
use Rattle.transform.proofs.Tables.{length_table}
use Rattle.sheet.specs.Shape.{n, columns}
use Rattle.square.proofs.Heads.{n_same, columns_same}
use Rattle.frames.specs.Little.{little}
use Rattle.writing.specs.Written.{Fills}
use Rattle.writing.proofs.Files.{fills_file, fills_section, fills_end}
use Rattle.constraints.specs.Opened.{magic}
use Rattle.constraints.specs.Circuit.{header_bytes}
use Rattle.square_file.specs.SquareFile.{block, line, label_bytes, square_circuit, square_file_bytes}
use Rattle.square_file.specs.Programs.{shape, entries, rows}
use Rattle.square_file.proofs.Labels.{length_labels}
use Rattle.square_file.proofs.FileParts.{length_header}
use Rattle.square_file.proofs.program.Program.put_file.Goals as goal

pub returns-clause-file : goal.returns-clause-file
unfolding square_file_bytes
returns-clause-file g c =
    let O = g.F.Field.ops in
    let p = g.F.FileField.prime in
    let P = c.args.self.now in
    let h = P.head.now in
    let C = square_circuit O p (shape P) (entries O P) in
    let H = header_bytes C in
    let R = rows O p P in
    let B = label_bytes (columns (shape P)) in
    let w0 = c.args.w.now in
    let w1 = c.put_start.new.self in
    let w2 = c.put_head.new.self in
    let w3 = c.put_header.new.w in
    let w4 = c.put_head-2.new.self in
    let w5 = c.put_rows.new.w in
    let w6 = c.put_head-3.new.self in
    let w7 = c.put_labels.new.w in
    let wires : c.columns-wires.result ≡ columns (shape P) = c.columns-wires.ensures.is ∙ columns_same h in
    let ls = table (n (shape P)) (line O p (shape P) (entries O P)) in
    let count : length ls ≡ c.n.result = length_table (n (shape P)) (line O p (shape P) (entries O P)) ∙ sym (n_same h) ∙ sym c.n.ensures.is in
    let header : Fills w2 H w3 = rw (c.prime.ensures.value, wires, c.publics-inputs.ensures) at (c.put_header.ensures ls count) in
    let head : Fills w5 (little 4 3 ++ little 8 (8 * columns (shape P))) w6 = rw wires at c.put_head-3.ensures.0 in
    let labels : Fills w6 B w7 = rw wires at c.put_labels.ensures in
    fills_file w0 w1 w7 magic 1 3 (block 1 H ∷ block 2 R ∷ block 3 B ∷ []) refl c.put_start.ensures.0
    (fills_section w1 w2 w3 w7 1 40 H _ (length_header C) c.put_head.ensures.0 header
    (fills_section w3 w4 w5 w7 2 c.args.size R _ (sym c.requires) c.put_head-2.ensures.0 c.put_rows.ensures
    (fills_section w5 w6 w7 w7 3 (8 * columns (shape P)) B _ (length_labels (columns (shape P))) head labels (fills_end w7))))
