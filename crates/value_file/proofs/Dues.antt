-- The last two lines of the table of refusals, where the lines above pass.
use Rattle.std.proofs.Common.{◌≡◌, ℕ, ◌+◌, ◌*◌, ◌<◌, ◌≤◌, true, List, length, get_or, Some, None, sym, ap, ◌∙◌, arith}
use Rattle.std.proofs.lemmas.List.{get_or_read}
use Rattle.std.proofs.lemmas.Bool.{eq-eqb, le-leb, lt-leb}
use Rattle.field.specs.Operations.{Operations, decided}
use Rattle.field.proofs.Decided.{yes_decided}
use Rattle.transform.specs.Polynomial.{coefficient}
use Rattle.sheet.specs.Shape.{Shape, columns}
use Rattle.square.specs.Rules.{starts_with_one}
use Rattle.value_file.specs.ValueFile.{all_plain, value_file_bytes}
use Rattle.value_file.specs.Outcomes.{value_file_due}
use Rattle.value_file.proofs.Parts.{length_values}

module _ {F : Type 0} (O : Operations F) (p : ℕ) (S : Shape) (vs : List F) where
  pub starts : (x y : F) → 0 < length vs → x ≡ get_or vs 0 x → y ≡ O.one → true ≡ decided (O.same x y) → starts_with_one O S vs ≡ true
  starts x y h read one told =
      let e = get_or_read vs 0 x h read O.zero in
      sym (told ∙ ap (λ a. decided (O.same a y)) e ∙ ap (λ b. decided (O.same (coefficient O vs 0) b)) one)

  pub starts_one : starts_with_one O S vs ≡ true → coefficient O vs 0 ≡ O.one
  starts_one e = yes_decided (O.same (coefficient O vs 0) O.one) e

  module _ (size : length vs ≡ columns S) (first : starts_with_one O S vs ≡ true) (plain : all_plain O p vs ≡ true) (room : ℕ) where
    pub too_short : room < 52 + 8 * length vs → value_file_due O p S vs room ≡ Some (13, 0)
    too_short h = rw (eq-eqb (length vs) (columns S) size, first, plain, lt-leb (length (value_file_bytes O p vs)) room (omega (arith, length_values O p vs)))

    pub nothing_due : 52 + 8 * length vs ≤ room → value_file_due O p S vs room ≡ None
    nothing_due h = rw (eq-eqb (length vs) (columns S) size, first, plain, le-leb (length (value_file_bytes O p vs)) room (omega (arith, length_values O p vs)))
