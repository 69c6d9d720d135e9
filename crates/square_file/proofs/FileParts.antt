-- The length of the file.
use Rattle.std.proofs.Common.{◌≡◌, ℕ, ◌+◌, ◌*◌, [], ◌∷◌, length, arith, length-append}
use Rattle.field.specs.Operations.{Operations}
use Rattle.sheet.specs.Shape.{Shape, n, columns}
use Rattle.frames.proofs.Bytes.{length_little}
use Rattle.writing.proofs.Files.{length_file, length_section, length_end}
use Rattle.constraints.specs.Opened.{magic}
use Rattle.constraints.specs.Circuit.{Circuit, header_bytes}
use Rattle.square_file.specs.SquareFile.{block, label_bytes, square_circuit, square_file_bytes}
use Rattle.square_file.proofs.RowLists.{first_rows}
use Rattle.square_file.proofs.Labels.{length_labels}

pub length_header : (c : Circuit) → length (header_bytes c) ≡ 40
unfolding header_bytes
length_header c = simp (length-append, length_little)

module _ {F : Type 0} (O : Operations F) (p : ℕ) (S : Shape) (c : (matrix row wire : ℕ) → F) where
  pub length_square : length (square_file_bytes O p S c) ≡ 88 + length (first_rows O p S c (n S)) + 8 * columns S
  unfolding square_file_bytes
  length_square =
      let header = block 1 (header_bytes (square_circuit O p S c)) in
      let rows = block 2 (first_rows O p S c (n S)) in
      let labels = block 3 (label_bytes (columns S)) in
      omega (
        arith,
        length_file magic 1 (header ∷ rows ∷ labels ∷ []),
        length_section 1 header.payload (rows ∷ labels ∷ []),
        length_section 2 rows.payload (labels ∷ []),
        length_section 3 labels.payload [],
        length_end,
        length_header (square_circuit O p S c),
        length_labels (columns S),
      )
