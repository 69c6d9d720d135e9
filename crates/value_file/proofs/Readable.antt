-- The file encodes the numbers of the values, and these give the values back.
use Rattle.std.proofs.Common.{◌≡◌, ℕ, ◌^◌, ◌<◌, ◌≤◌, true, List, [], ◌∷◌, ◌++◌, map, length, get_or, take, drop, Some, sym, refl, ap, ◌∙◌, inl, inr, arith, take_at}
use lib.ListN.{length-map}
use Rattle.std.specs.List.{AllByRecursion}
use Rattle.std.proofs.lemmas.Bool.{and_parts, cases_lt}
use Rattle.field.specs.Operations.{Operations, ones, sum}
use Rattle.field.specs.Laws.{Laws}
use Rattle.field.proofs.Ring.{zero_add}
use Rattle.field.proofs.Cancel.{one≢zero}
use Rattle.transform.specs.Polynomial.{coefficient}
use Rattle.writing.specs.Plain.{numbered, is_plain}
use Rattle.writing.proofs.Numbered.{numbered_right}
use Rattle.assignments.specs.Assignment.{header_bytes, value_bytes, Encodes}
use Rattle.value_file.specs.ValueFile.{block, all_plain, numbers, value_file_bytes}
use Rattle.value_file.proofs.Parts.{length_header, length_numbers}

module _ {F : Type 0} (O : Operations F) (p : ℕ) where
  pub numbers_right : (vs : List F) → all_plain O p vs ≡ true → AllByRecursion (λ v. v < p) (numbers O p vs) × (map (ones O) (numbers O p vs) ≡ vs)
  numbers_right [] e = (tt, refl)
  numbers_right (x ∷ xs) e =
      let b = and_parts (is_plain O p x) (all_plain O p xs) e in
      let here = numbered_right O p x b.0 in
      let more = numbers_right xs b.1 in
      ((here.0, more.0), rw (← here.1, more.1))

  module _ (laws : Laws O) (distinct : (u v : ℕ) → u < p → v < p → ones O u ≡ ones O v → u ≡ v) where
    ones_zero : ones O 0 ≡ O.zero
    unfolding ones sum
    ones_zero = refl

    ones_one : ones O 1 ≡ O.one
    unfolding ones sum
    ones_one = zero_add laws.ring O.one

    -- the number of one
    one_numbered : (v : ℕ) → v < p → O.one ≡ ones O v → v ≡ 1
    one_numbered v h e =
        elim (cases_lt 1 p) [
          | inl two ↦ distinct v 1 h two (sym e ∙ sym ones_one)
          | inr few ↦ let z : v ≡ 0 = omega arith in absurd (one≢zero laws (e ∙ ap (ones O) z ∙ ones_zero))
        ]

    pub first_number : (vs : List F) → 1 ≤ length vs → coefficient O vs 0 ≡ O.one → all_plain O p vs ≡ true → get_or (numbers O p vs) 0 0 ≡ 1
    first_number [] h e a = absurd (omega (arith, h))
    first_number (x ∷ xs) h e a =
        let n = numbered_right O p x (and_parts (is_plain O p x) (all_plain O p xs) a).0 in
        one_numbered (numbered O p x) n.0 (sym e ∙ n.1)

    pub encodes : p < 2 ^ 64 → (vs : List F) (n : ℕ) → length vs ≡ n → 1 ≤ n → n ≤ 3072 → coefficient O vs 0 ≡ O.one → all_plain O p vs ≡ true
        → Encodes (value_file_bytes O p vs) p n (numbers O p vs)
    unfolding value_file_bytes
    encodes small vs n size some room one a =
        record {
          sections = block 1 (header_bytes p (length vs)) ∷ (block 2 (value_bytes (numbers O p vs)) ∷ []);
          file = record {
            bytes = refl;
            count = omega arith;
            sizes = ((omega arith, omega (arith, length_header p (length vs))), ((omega arith, omega (arith, length_numbers O p vs)), tt));
            order = (refl, refl, tt);
          };
          header = ap (λ k. Some (header_bytes p k)) size;
          body = refl;
          prime = small;
          count = length-map vs (numbered O p) ∙ size;
          some = some;
          room = room;
          first = first_number vs (omega arith) one a;
          below = (numbers_right vs a).0;
        }

  -- the file is the front of the buffer
  pub front : (vs : List F) (out : List ℕ) (n k : ℕ) → n ≡ length (value_file_bytes O p vs) → take n (value_file_bytes O p vs ++ drop k out) ≡ value_file_bytes O p vs
  front vs out n k e = take_at (value_file_bytes O p vs) (drop k out) n (sym e)
