-- The file encodes the square program.
use Rattle.std.proofs.Common.{◌≡◌, ℕ, zero, suc, ◌+◌, ◌^◌, ◌<◌, ◌≤◌, true, ◌&&◌, List, [], ◌∷◌, ◌++◌, length, take, drop, sym, refl, inl, inr, arith, take_at}
use lib.ListN.{length-map}
use Rattle.std.specs.List.{AllByRecursion}
use Rattle.std.proofs.lemmas.Bool.{and_parts, cases_eq}
use Rattle.field.specs.Operations.{Operations}
use Rattle.transform.specs.Polynomial.{table}
use Rattle.transform.proofs.Tables.{length_table}
use Rattle.sheet.specs.Shape.{Shape, n, columns}
use Rattle.square.specs.Program.{kind, U, W}
use Rattle.square.proofs.Branches.{if_cases}
use Rattle.square_rows.specs.declared.term.Term.{Term}
use Rattle.writing.specs.Plain.{is_plain}
use Rattle.writing.proofs.Numbered.{numbered_right}
use Rattle.constraints.specs.Circuit.{Line, header_bytes, Below, Encodes}
use Rattle.square_rows.specs.Terms.{terms}
use Rattle.square_rows.specs.Combined.{term}
use Rattle.square_rows.proofs.TermLists.{terms_most}
use Rattle.square_file.specs.Terms.{all_plain, item, items}
use Rattle.square_file.specs.SquareFile.{block, left_terms, right_terms, line, plain_rows, label_bytes, square_circuit, square_file_bytes}
use Rattle.square_file.proofs.RowLists.{first_rows}
use Rattle.square_file.proofs.Labels.{length_labels}
use Rattle.square_file.proofs.FileParts.{length_header}

all_table : {X : Type 0} (P : X → Type 0) (n : ℕ) (f : ℕ → X) → ((i : ℕ) → i < n → P (f i)) → AllByRecursion P (table n f)
unfolding table
all_table P zero f h = tt
all_table P (suc n) f h = (h 0 (omega arith), all_table P n (λ i. f (suc i)) (λ i l. h (suc i) (omega arith)))

module _ {F : Type 0} (O : Operations F) (p : ℕ) where
  abbrev Bounded : ℕ → List (Term F) → Type 0
  Bounded M ts = all_plain O p ts ≡ true → AllByRecursion (λ i. (i.wire < M) × (i.coefficient < p)) (items O p ts)

  terms_bounded : (M n from : ℕ) (f : ℕ → F) → from + n ≤ M → Bounded M (terms O n from f)
  unfolding terms
  terms_bounded M zero from f h = λ _. tt
  terms_bounded M (suc n) from f h =
      let rest : Bounded M (terms O n (from + 1) f) = terms_bounded M n (from + 1) f (omega arith) in
      if_cases (Bounded M) (O.same (f from) O.zero) (terms O n (from + 1) f) (term O from (f from) ∷ terms O n (from + 1) f)
      (λ _. rest)
      (λ _ e.
      let b = and_parts (is_plain O p (f from)) (all_plain O p (terms O n (from + 1) f)) e in
      ((omega arith, (numbered_right O p (f from) b.0).0), rest b.1))

  terms_below : (M : ℕ) (f : ℕ → F) → M < 2 ^ 32 → all_plain O p (terms O M 0 f) ≡ true → Below M p (items O p (terms O M 0 f))
  terms_below M f small e =
      let ts = terms O M 0 f in
      (omega (arith, length-map ts (item O p), terms_most O M 0 f), terms_bounded M M 0 f (omega arith) e)

  module _ (S : Shape) (c : (matrix row wire : ℕ) → F) where
    plain_at : (count r : ℕ) → r < count → plain_rows O p S c count ≡ true
        → (all_plain O p (left_terms O p S c r) ≡ true) × (all_plain O p (right_terms O p S c r) ≡ true)
    unfolding plain_rows
    plain_at zero r h e = absurd (omega (arith, h))
    plain_at (suc count) r h e =
        let b = and_parts (plain_rows O p S c count) (all_plain O p (left_terms O p S c count) && all_plain O p (right_terms O p S c count)) e in
        elim (cases_eq r count) [
          | inl q ↦ rw q (and_parts (all_plain O p (left_terms O p S c count)) (all_plain O p (right_terms O p S c count)) b.1)
          | inr q ↦ plain_at count r (omega arith) b.0
        ]

    abbrev InOrder : Line → Type 0
    InOrder l = Below (columns S) p l.a × Below (columns S) p l.b × Below (columns S) p l.c

    line_below : (r : ℕ) → columns S < 2 ^ 32 → (all_plain O p (left_terms O p S c r) ≡ true) × (all_plain O p (right_terms O p S c r) ≡ true) → InOrder (line O p S c r)
    unfolding line
    line_below r small e =
        let a = terms_below (columns S) (U O S c (kind S r)) small e.0 in
        (a, a, terms_below (columns S) (W O S c (kind S r)) small e.1)

    pub encodes : p < 2 ^ 64 → columns S < 2 ^ 32 → n S < 2 ^ 32 → 1 ≤ S.l → S.l ≤ S.m → length (first_rows O p S c (n S)) < 2 ^ 64
        → plain_rows O p S c (n S) ≡ true → Encodes (square_file_bytes O p S c) p (square_circuit O p S c)
    unfolding square_file_bytes
    encodes prime wires rows some within size plain =
        record {
          sections = block 1 (header_bytes (square_circuit O p S c)) ∷ block 2 (first_rows O p S c (n S)) ∷ block 3 (label_bytes (columns S)) ∷ [];
          file = record {
            bytes = refl;
            count = omega arith;
            sizes = ((omega arith, omega (arith, length_header (square_circuit O p S c))), ((omega arith, size), ((omega arith, omega (arith, length_labels (columns S))), tt)));
            order = (refl, refl, (((λ e. omega arith), (λ e. omega arith)), tt));
          };
          header = refl;
          body = refl;
          prime = refl;
          proper = record {
            prime = prime;
            wires = wires;
            enough = omega arith;
            labels = omega arith;
            count = omega (arith, length_table (n S) (line O p S c));
            rows = all_table InOrder (n S) (line O p S c) (λ r h. line_below r wires (plain_at (n S) r h plain));
          };
        }

    -- the file is the front of the buffer
    pub front : (out : List ℕ) (size k : ℕ) → size ≡ length (square_file_bytes O p S c) → take size (square_file_bytes O p S c ++ drop k out) ≡ square_file_bytes O p S c
    front out size k e = take_at (square_file_bytes O p S c) (drop k out) size (sym e)
