-- The bytes of the rows, row by row.
use Rattle.std.proofs.Common.{◌≡◌, ℕ, zero, suc, ◌+◌, ◌*◌, Bool, true, false, ◌&&◌, List, [], ◌∷◌, ◌++◌, length, refl, ap, ◌∙◌, append_assoc, append-nil, add-one, arith, length-append}
use lib.ListN.{length-map}
use Rattle.field.specs.Operations.{Operations}
use Rattle.transform.specs.Polynomial.{table}
use Rattle.sheet.specs.Shape.{Shape, n}
use Rattle.square_rows.specs.declared.term.Term.{Term}
use Rattle.frames.specs.Little.{little}
use Rattle.frames.proofs.Bytes.{length_little}
use Rattle.constraints.specs.Circuit.{Line, item_bytes, list_bytes, row_bytes}
use Rattle.constraints.proofs.Handed.{length_items}
use Rattle.square_file.specs.Terms.{all_plain, item, items}
use Rattle.square_file.specs.SquareFile.{left_terms, right_terms, line, plain_rows}

pub table_more : {X : Type 0} (n : ℕ) (f : ℕ → X) → table (suc n) f ≡ table n f ++ f n ∷ []
unfolding table
table_more zero f = refl
table_more (suc n) f = ap (λ l. f 0 ∷ l) (table_more n (λ i. f (suc i)))

pub rows_append : (xs ys : List Line) → row_bytes (xs ++ ys) ≡ row_bytes xs ++ row_bytes ys
unfolding row_bytes
rows_append [] ys = refl
rows_append (l ∷ xs) ys = rw (rows_append xs ys) (simp append_assoc)

module _ {F : Type 0} (O : Operations F) (p : ℕ) where
  pub length_terms : (ts : List (Term F)) → length (item_bytes (items O p ts)) ≡ 12 * length ts
  length_terms ts = length_items (items O p ts) ∙ ap (λ n. 12 * n) (length-map ts (item O p))

  pub length_list : (ts : List (Term F)) → length (list_bytes (items O p ts)) ≡ 4 + 12 * length ts
  unfolding list_bytes
  length_list ts =
      omega (arith, length-append (little 4 (length (items O p ts))) (item_bytes (items O p ts)), length_little 4 (length (items O p ts)), length_terms ts)

  module _ (S : Shape) (c : (matrix row wire : ℕ) → F) where
    abbrev L : ℕ → List (Term F)
    L = left_terms O p S c

    abbrev R : ℕ → List (Term F)
    R = right_terms O p S c

    -- the three lists of a row
    pub row_parts : (r : ℕ) → row_bytes (line O p S c r ∷ []) ≡ list_bytes (items O p (L r)) ++ (list_bytes (items O p (L r)) ++ list_bytes (items O p (R r)))
    unfolding line row_bytes
    row_parts r = simp append-nil

    pub length_row : (r : ℕ) → length (row_bytes (line O p S c r ∷ [])) ≡ 12 + 24 * length (L r) + 12 * length (R r)
    length_row r =
        let a = list_bytes (items O p (L r)) in
        let b = list_bytes (items O p (R r)) in
        ap length (row_parts r) ∙ omega (arith, length-append a (a ++ b), length-append a b, length_list (L r), length_list (R r))

    -- the bytes of the first rows
    abbrev pub first_rows : ℕ → List ℕ
    first_rows r = row_bytes (table r (line O p S c))

    pub no_rows : first_rows 0 ≡ []
    unfolding table row_bytes
    no_rows = refl

    pub rows_more : (r : ℕ) → first_rows (r + 1) ≡ first_rows r ++ row_bytes (line O p S c r ∷ [])
    rows_more r =
        ap first_rows (add-one r)
        ∙ ap row_bytes (table_more r (line O p S c))
        ∙ rows_append (table r (line O p S c)) (line O p S c r ∷ [])

    pub length_more : (r : ℕ) → length (first_rows (r + 1)) ≡ length (first_rows r) + length (row_bytes (line O p S c r ∷ []))
    length_more r = ap length (rows_more r) ∙ length-append (first_rows r) (row_bytes (line O p S c r ∷ []))

    abbrev P : ℕ → Bool
    P = plain_rows O p S c

    pub plain_none : P 0 ≡ true
    unfolding plain_rows
    plain_none = refl

    pub plain_more : (r : ℕ) → P (r + 1) ≡ (P r && (all_plain O p (L r) && all_plain O p (R r)))
    unfolding plain_rows
    plain_more r = ap P (add-one r)

    -- a row that fails makes them all fail
    pub plain_fails : (d r : ℕ) → P r ≡ false → P (r + d) ≡ false
    plain_fails zero r h = let e : r + 0 ≡ r = omega arith in rw e h
    plain_fails (suc d) r h =
        let e : r + suc d ≡ r + d + 1 = omega arith in
        ap P e ∙ plain_more (r + d) ∙ ap (λ b. b && (all_plain O p (L (r + d)) && all_plain O p (R (r + d)))) (plain_fails d r h)
