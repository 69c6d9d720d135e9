-- A row's sum by one pass over the used entries.
use Rattle.std.proofs.Common.{◌≡◌, ℕ, zero, suc, ◌+◌, ◌<◌, true, ltb, ◌≢◌, ◌⊎◌, List, [], ◌∷◌, ◌++◌, length, get_or, take, sym, refl, ap, ◌∙◌, ap₂, inl, inr, le_of_suc-le-suc, not-suc-le-zero}
use Rattle.std.proofs.lemmas.List.{take_more}
use Rattle.std.proofs.lemmas.Bool.{and_parts, ltb-true}
use Rattle.field.specs.Operations.{Operations}
use Rattle.field.specs.Laws.{Laws}
use Rattle.field.proofs.Ring.{zero_add}
use Rattle.sheet.specs.Shape.{Shape}
use Rattle.sheet.specs.Rules.{inside}
use Rattle.sheet.specs.declared.entry.Entry.{Entry}
use Rattle.square.specs.Rows.{only, position, row_sum}
use Rattle.square.specs.Rules.{all_inside}
use Rattle.square.proofs.Dots.{only_same, only_other, only_zero, dot_zero, dot_add, dot_only, dot_within}

-- ── Entries within the sheet ──

pub record Inside {F : Type 0} (S : Shape) (e : Entry F) : Type 0 where
  pub matrix : e.matrix < 3
  pub row : e.row < S.N
  pub wire : e.wire < S.m

pub inside_is : {F : Type 0} (S : Shape) (e : Entry F) → inside S e.matrix e.row e.wire ≡ true → Inside S e
inside_is S e h =
    let parts = and_parts (ltb e.matrix 3) _ h in
    let rest = and_parts (ltb e.row S.N) _ parts.1 in
    record { matrix = ltb-true _ _ parts.0; row = ltb-true _ _ rest.0; wire = ltb-true _ _ rest.1 }

pub all_inside_parts : {F : Type 0} (S : Shape) (e : Entry F) (es : List (Entry F)) → all_inside S (e ∷ es) ≡ true → Inside S e × (all_inside S es ≡ true)
all_inside_parts S e es h =
    let parts = and_parts (inside S e.matrix e.row e.wire) (all_inside S es) h in
    (inside_is S e parts.0, parts.1)

pub wire_at : {F : Type 0} (S : Shape) (es : List (Entry F)) (j : ℕ) (e : Entry F) → all_inside S es ≡ true → j < length es → e ≡ get_or es j e → e.wire < S.m
wire_at S [] j e h l read = absurd (not-suc-le-zero l)
wire_at S (x ∷ es) zero e h l read = rw read ((all_inside_parts S x es h).0.wire)
wire_at S (x ∷ es) (suc j) e h l read = wire_at S es j e (all_inside_parts S x es h).1 (le_of_suc-le-suc l) read

-- ── The pass ──

module _ {F : Type 0} (O : Operations F) (matrix row : ℕ) (z : ℕ → F) where
  open O use {zero as 𝟘, add as ◌⊕◌, mul as ◌⊗◌}

  infixl 60 ◌⊕◌
  infixl 70 ◌⊗◌
  -- what an entry adds to the sum of a row: its coefficient times its wire's value, where matrix and row agree
  contribution : Entry F → F
  contribution e = only O e.matrix matrix (only O e.row row (e.coefficient ⊗ z e.wire))

  pub pass : List (Entry F) → F
  pass [] = 𝟘
  pass (e ∷ es) = contribution e ⊕ pass es

module _ {F : Type 0} {O : Operations F} (L : Laws O) (matrix row : ℕ) (z : ℕ → F) where
  open O use {zero as 𝟘, add as ◌⊕◌, mul as ◌⊗◌}

  infixl 60 ◌⊕◌
  infixl 70 ◌⊗◌
  contribution_here : (e : Entry F) → e.matrix ≡ matrix → e.row ≡ row → contribution O matrix row z e ≡ e.coefficient ⊗ z e.wire
  unfolding contribution
  contribution_here e m r = only_same L e.matrix matrix _ m ∙ only_same L e.row row _ r

  contribution_elsewhere : (e : Entry F) → (e.matrix ≢ matrix) ⊎ (e.row ≢ row) → contribution O matrix row z e ≡ 𝟘
  unfolding contribution
  contribution_elsewhere e (inl m) = only_other L e.matrix matrix _ m
  contribution_elsewhere e (inr r) = ap (only O e.matrix matrix) (only_other L e.row row _ r) ∙ only_zero L e.matrix matrix

  pub pass_none : pass O matrix row z [] ≡ 𝟘
  unfolding pass
  pass_none = refl

  pass_append : (xs ys : List (Entry F)) → pass O matrix row z (xs ++ ys) ≡ pass O matrix row z xs ⊕ pass O matrix row z ys
  unfolding pass
  pass_append [] ys = sym (zero_add L.ring (pass O matrix row z ys))
  pass_append (e ∷ xs) ys = ap (λ t. contribution O matrix row z e ⊕ t) (pass_append xs ys) ∙ sym (L.ring.add_assoc _ _ _)

  pass_more : (es : List (Entry F)) (j : ℕ) (e : Entry F) → j < length es → e ≡ get_or es j e
      → pass O matrix row z (take (j + 1) es) ≡ pass O matrix row z (take j es) ⊕ contribution O matrix row z e
  pass_more es j e h read =
      ap (pass O matrix row z) (take_more es j e h)
      ∙ pass_append (take j es) (get_or es j e ∷ [])
      ∙ ap (λ t. pass O matrix row z (take j es) ⊕ t) (alone ∙ ap (contribution O matrix row z) (sym read))
    where
      alone : pass O matrix row z (get_or es j e ∷ []) ≡ contribution O matrix row z (get_or es j e)
      alone = unfold pass in L.ring.add_zero _

  -- one entry more, which counts where its matrix and row are those of the sum
  module _ (es : List (Entry F)) (j : ℕ) (e : Entry F) (within : j < length es) (read : e ≡ get_or es j e) where
    pub pass_here : e.matrix ≡ matrix → e.row ≡ row → pass O matrix row z (take (j + 1) es) ≡ pass O matrix row z (take j es) ⊕ e.coefficient ⊗ z e.wire
    pass_here m r = pass_more es j e within read ∙ ap (λ t. pass O matrix row z (take j es) ⊕ t) (contribution_here e m r)

    pub pass_elsewhere : (e.matrix ≢ matrix) ⊎ (e.row ≢ row) → pass O matrix row z (take (j + 1) es) ≡ pass O matrix row z (take j es)
    pass_elsewhere other =
        pass_more es j e within read
        ∙ ap (λ t. pass O matrix row z (take j es) ⊕ t) (contribution_elsewhere e other)
        ∙ L.ring.add_zero (pass O matrix row z (take j es))

  -- over entries within the sheet it is the row's sum
  pub dot_pass : (S : Shape) (es : List (Entry F)) → all_inside S es ≡ true → row_sum O S (position O es) z matrix row ≡ pass O matrix row z es
  unfolding position pass contribution
  dot_pass S [] h = dot_zero L S.m z
  dot_pass S (e ∷ es) h =
      let parts = all_inside_parts S e es h in
      dot_add L S.m _ _ z
      ∙ ap₂ ◌⊕◌
      (dot_within L S.m e.matrix matrix _ z
      ∙ ap (only O e.matrix matrix)
      (dot_within L S.m e.row row _ z ∙ ap (only O e.row row) (dot_only L S.m e.wire e.coefficient z parts.0.wire)))
      (dot_pass S es parts.1)
