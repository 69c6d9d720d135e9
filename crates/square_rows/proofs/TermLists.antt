-- The terms of a linear combination, from one to the next.
use Rattle.std.proofs.Common.{◌≡◌, ℕ, zero, suc, ◌+◌, ◌-◌, ◌<◌, ◌≤◌, List, [], ◌∷◌, length, Some, sym, refl, ap, ◌∙◌, ap₂, add-zero, zero-add, arith}
use native.Mathlib.Decide.{dec_le}
use Rattle.std.specs.List.{AllByRecursion}
use Rattle.field.specs.Operations.{Operations}
use Rattle.sheet.specs.Shape.{columns}
use Rattle.sheet.specs.Outcomes.{shape_of}
use Rattle.square.specs.Rows.{when◌then◌else◌}
use Rattle.square.proofs.Branches.{if_yes, if_no, if_cases}
use Rattle.square_rows.specs.declared.term.Term.{Term}
use Rattle.square_rows.specs.Combined.{term, FirstTerm}
use Rattle.square_rows.specs.declared.combination.terms.Terms.{Terms}
use Rattle.square_rows.specs.Terms.{terms, coefficients, terms_left}

module _ {F : Type 0} (O : Operations F) where
  terms_none : (n w : ℕ) (f : ℕ → F) → f w ≡ O.zero → terms O (suc n) w f ≡ terms O n (w + 1) f
  unfolding terms
  terms_none n w f e = if_yes (O.same (f w) O.zero) _ _ e

  terms_one : (n w : ℕ) (f : ℕ → F) → ¬ (f w ≡ O.zero) → terms O (suc n) w f ≡ term O w (f w) ∷ terms O n (w + 1) f
  unfolding terms
  terms_one n w f e = if_no (O.same (f w) O.zero) _ _ e

  skipped : (d n from : ℕ) (f : ℕ → F) → ((w : ℕ) → from ≤ w → w < from + d → f w ≡ O.zero) → terms O (d + n) from f ≡ terms O n (from + d) f
  skipped zero n from f h = ap₂ (λ a b. terms O a b f) (zero-add n) (sym (add-zero from))
  skipped (suc d) n from f h =
      let more : suc d + n ≡ suc (d + n) = omega arith in
      let place : from + 1 + d ≡ from + suc d = omega arith in
      ap (λ k. terms O k from f) more
      ∙ terms_none (d + n) from f (h from (omega arith) (omega arith))
      ∙ skipped d n (from + 1) f (λ w a b. h w (omega arith) (omega arith))
      ∙ ap (λ k. terms O n k f) place

  terms_below : (M n from : ℕ) (f : ℕ → F) → from + n ≤ M → AllByRecursion (λ t. t.wire < M) (terms O n from f)
  unfolding terms
  terms_below M zero from f h = tt
  terms_below M (suc n) from f h =
      let rest = terms_below M n (from + 1) f (omega arith) in
      if_cases (AllByRecursion (λ t. t.wire < M)) (O.same (f from) O.zero) (terms O n (from + 1) f) (term O from (f from) ∷ terms O n (from + 1) f)
      (λ _. rest) (λ _. (omega arith, rest))

  module _ (M : ℕ) (f : ℕ → F) where
    -- the terms from a wire on
    abbrev pub ahead : ℕ → List (Term F)
    ahead from = terms O (M - from) from f

    pub ahead_none : (from : ℕ) → ((w : ℕ) → from ≤ w → w < M → f w ≡ O.zero) → ahead from ≡ []
    ahead_none from h =
        ap (λ k. terms O k from f) (sym (add-zero (M - from)))
        ∙ skipped (M - from) 0 from f (λ w a b. h w a (omega arith))
        ∙ unfold terms in refl

    pub ahead_first : (from w : ℕ) (x : F) → from ≤ w → w < M → x ≡ f w → ¬ (x ≡ O.zero) → ((v : ℕ) → from ≤ v → v < w → f v ≡ O.zero)
        → ahead from ≡ term O w x ∷ ahead (w + 1)
    ahead_first from w x a b e other h =
        let size : M - from ≡ w - from + suc (M - (w + 1)) = omega arith in
        let place : from + (w - from) ≡ w = omega arith in
        ap (λ k. terms O k from f) size
        ∙ skipped (w - from) (suc (M - (w + 1))) from f (λ v c d. h v c (omega arith))
        ∙ ap (λ k. terms O (suc (M - (w + 1))) k f) place
        ∙ terms_one (M - (w + 1)) w f (λ z. other (e ∙ z))
        ∙ ap (λ t. term O w t ∷ ahead (w + 1)) (sym e)

    -- as `next_term` tells them
    pub ahead_next : (from : ℕ) (t : Term F) → FirstTerm O M from f (Some t) → ahead from ≡ t ∷ ahead (t.wire + 1)
    ahead_next from t h = ahead_first from t.wire t.coefficient h.0 h.1 h.2 h.3 h.4

    -- each on a wire below M
    pub ahead_below : (from : ℕ) → AllByRecursion (λ t. t.wire < M) (ahead from)
    ahead_below from =
        elim (dec_le from M) [
          | yes h ↦ terms_below M (M - from) from f (omega arith)
          | no h ↦ let none : ahead from ≡ [] = ahead_none from (λ w a b. absurd (omega arith)) in rw none tt
        ]

  pub terms_ext : (n from : ℕ) (f g : ℕ → F) → ((w : ℕ) → f w ≡ g w) → terms O n from f ≡ terms O n from g
  unfolding terms
  terms_ext zero from f g h = refl
  terms_ext (suc n) from f g h =
      ap (λ x. when O.same x O.zero then terms O n (from + 1) f else term O from x ∷ terms O n (from + 1) f) (h from)
      ∙ ap (λ l. when O.same (g from) O.zero then l else term O from (g from) ∷ l) (terms_ext n (from + 1) f g h)

  -- no more terms than wires
  pub terms_most : (n from : ℕ) (f : ℕ → F) → length (terms O n from f) ≤ n
  unfolding terms
  terms_most zero from f = omega arith
  terms_most (suc n) from f =
      let rest : length (terms O n (from + 1) f) ≤ n = terms_most n (from + 1) f in
      if_cases (λ l. length l ≤ suc n) (O.same (f from) O.zero) (terms O n (from + 1) f) (term O from (f from) ∷ terms O n (from + 1) f) (λ _. omega arith) (λ _. omega arith)

  -- ── What a head's bounds say of them ──

  module _ (t : Terms F) where
    few_columns : columns (shape_of t.head.now) ≤ 3072
    few_columns = omega (arith, t.head.now.wires_most, t.head.now.publics_most, t.head.now.rows_most)

    pub few_left : length (terms_left O t) ≤ 3072
    few_left = omega (arith, terms_most (columns (shape_of t.head.now) - t.from) t.from (coefficients O t), few_columns)

    pub first_below : (x : Term F) (xs : List (Term F)) → terms_left O t ≡ x ∷ xs → x.wire < 3072
    first_below x xs e =
        let M = columns (shape_of t.head.now) in
        let below : AllByRecursion (λ y. y.wire < M) (x ∷ xs) = rw e at (ahead_below M (coefficients O t) t.from) in
        omega (arith, below.0, few_columns)
