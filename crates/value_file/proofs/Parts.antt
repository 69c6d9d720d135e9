-- The numbers one after another, and the length of the file.
use Rattle.std.proofs.Common.{◌≡◌, ℕ, ◌+◌, ◌*◌, List, [], ◌∷◌, ◌++◌, length, refl, ap, ◌∙◌, arith, length-append}
use lib.ListN.{length-map}
use Rattle.field.specs.Operations.{Operations}
use Rattle.frames.specs.Little.{little}
use Rattle.frames.proofs.Bytes.{length_little}
use Rattle.writing.specs.Plain.{numbered, number_bytes}
use Rattle.writing.proofs.Files.{length_file, length_section, length_end}
use Rattle.assignments.specs.Assigned.{magic}
use Rattle.assignments.specs.Assignment.{header_bytes, value_bytes}
use Rattle.value_file.specs.ValueFile.{block, numbers, value_file_bytes}

pub length_header : (p n : ℕ) → length (header_bytes p n) ≡ 16
unfolding header_bytes
length_header p n = simp (length-append, length_little)

length_value_bytes : (vs : List ℕ) → length (value_bytes vs) ≡ 8 * length vs
unfolding value_bytes
length_value_bytes [] = refl
length_value_bytes (v ∷ vs) = omega (arith, length-append (little 8 v) (value_bytes vs), length_little 8 v, length_value_bytes vs)

module _ {F : Type 0} (O : Operations F) (p : ℕ) where
  -- a writer's words for the numbers, and an assignment file's
  pub numbers_same : (vs : List F) → number_bytes O p vs ≡ value_bytes (numbers O p vs)
  unfolding number_bytes value_bytes
  numbers_same [] = refl
  numbers_same (v ∷ vs) = ap (λ bs. little 8 (numbered O p v) ++ bs) (numbers_same vs)

  pub length_numbers : (vs : List F) → length (value_bytes (numbers O p vs)) ≡ 8 * length vs
  length_numbers vs = length_value_bytes (numbers O p vs) ∙ ap (λ n. 8 * n) (length-map vs (numbered O p))

  pub length_values : (vs : List F) → length (value_file_bytes O p vs) ≡ 52 + 8 * length vs
  unfolding value_file_bytes
  length_values vs =
      let header = block 1 (header_bytes p (length vs)) in
      let body = block 2 (value_bytes (numbers O p vs)) in
      omega (
        arith,
        length_file magic 2 (header ∷ body ∷ []),
        length_section 1 header.payload (body ∷ []),
        length_section 2 body.payload [],
        length_end,
        length_header p (length vs),
        length_numbers vs,
      )
