-- The coefficient of a wire in a product row, entry by entry.
use Rattle.std.proofs.Common.{◌≡◌, ℕ, ◌+◌, ◌<◌, ◌≤◌, ◌≢◌, List, [], ◌∷◌, ◌++◌, length, get_or, take, sym, refl, ap, ◌∙◌, ap₂, arith}
use native.Mathlib.Decide.{ℕ_discrete, dec_lt}
use Rattle.std.proofs.lemmas.List.{take_more}
use Rattle.field.specs.Operations.{Operations}
use Rattle.field.specs.Laws.{Laws}
use Rattle.field.proofs.Ring.{zero_add, zero_mul, mul_zero, add_mul}
use Rattle.field.proofs.Solve.{⓪, ①, ◌⊞◌, ◌⊠◌, ◌⊟◌, ∸◌, ◌≈◌, by_ring}
use Rattle.transform.proofs.Sums.{sum_ext, sum_none, sum_add, sum_mul, sum_one}
use Rattle.sheet.specs.Shape.{Shape}
use Rattle.sheet.specs.declared.entry.Entry.{Entry}
use Rattle.square.specs.Rows.{when◌then◌else◌, only, position}
use Rattle.square.specs.Program.{p_wire, q_wire, image, replaced}
use Rattle.square.proofs.Branches.{if_yes, if_no}
use Rattle.square.proofs.Dots.{only_same, only_other}
use Rattle.square_rows.specs.declared.combination.Combination.{Combination}
use Rattle.square_rows.specs.Combined.{matrix_factor, own, weighted, combined}

module _ {F : Type 0} {O : Operations F} (L : Laws O) where
  open O use {zero as 𝟘, one as 𝟙, add as ◌⊕◌, mul as ◌⊗◌, neg}

  infixl 60 ◌⊕◌
  infixl 70 ◌⊗◌
  -- a factor goes into a test
  only_mul : (i j : ℕ) (x y : F) → x ⊗ only O i j y ≡ only O i j (x ⊗ y)
  unfolding only
  only_mul i j x y = go (ℕ_discrete i j)
    where
      go : (d : Dec (i ≡ j)) → x ⊗ (when d then y else 𝟘) ≡ (when d then x ⊗ y else 𝟘)
      go (yes _) = refl
      go (no _) = mul_zero L.ring x

  only_mul_right : (i j : ℕ) (x y : F) → only O i j x ⊗ y ≡ only O i j (x ⊗ y)
  only_mul_right i j x y = L.ring.mul_comm _ _ ∙ only_mul i j y x ∙ ap (only O i j) (L.ring.mul_comm y x)

  only_moved : (i j : ℕ) (x y : F) → x ⊗ only O i j y ≡ only O i j x ⊗ y
  only_moved i j x y = only_mul i j x y ∙ sym (only_mul_right i j x y)

  module _ (S : Shape) where
    open S use {m, l}

    -- ── What stands for a wire ──

    pub image_private : (i w : ℕ) → l ≤ i → image O S i w ≡ only O i w 𝟙
    unfolding image
    image_private i w h = if_no (dec_lt i l) _ _ (λ k. omega arith)

    pub image_public : (i w : ℕ) → i < l → image O S i w ≡ only O (p_wire S i) w 𝟙 ⊕ neg (only O (q_wire S i) w 𝟙)
    unfolding image
    image_public i w h = if_yes (dec_lt i l) _ _ h

    module _ (x : F) (i w : ℕ) where
      pub at_itself : l ≤ i → w ≡ i → x ≡ x ⊗ image O S i w
      at_itself h e = sym (ap (λ t. x ⊗ t) (image_private i w h ∙ only_same L i w 𝟙 (sym e)) ∙ L.ring.mul_one x)

      pub none_private : l ≤ i → w ≢ i → 𝟘 ≡ x ⊗ image O S i w
      none_private h e = sym (ap (λ t. x ⊗ t) (image_private i w h ∙ only_other L i w 𝟙 (λ z. e (sym z))) ∙ mul_zero L.ring x)

      pub at_p : i < l → w ≡ p_wire S i → x ≡ x ⊗ image O S i w
      at_p h e =
          sym (ap (λ t. x ⊗ t) (image_public i w h ∙ ap₂ (λ a b. a ⊕ neg b) (only_same L (p_wire S i) w 𝟙 (sym e)) (only_other L (q_wire S i) w 𝟙 (λ z. omega arith)))
          ∙ by_ring L.ring 1 (λ x. x ⊠ (① ⊟ ⓪) ≈ x) refl x)

      pub at_q : i < l → w ≡ q_wire S i → neg x ≡ x ⊗ image O S i w
      at_q h e =
          sym (ap (λ t. x ⊗ t) (image_public i w h ∙ ap₂ (λ a b. a ⊕ neg b) (only_other L (p_wire S i) w 𝟙 (λ z. omega arith)) (only_same L (q_wire S i) w 𝟙 (sym e)))
          ∙ by_ring L.ring 1 (λ x. x ⊠ (⓪ ⊟ ①) ≈ ∸ x) refl x)

      pub none_public : i < l → w ≢ p_wire S i → w ≢ q_wire S i → 𝟘 ≡ x ⊗ image O S i w
      none_public h e f =
          sym (ap (λ t. x ⊗ t) (image_public i w h ∙ ap₂ (λ a b. a ⊕ neg b) (only_other L (p_wire S i) w 𝟙 (λ z. e (sym z))) (only_other L (q_wire S i) w 𝟙 (λ z. f (sym z))))
          ∙ by_ring L.ring 1 (λ x. x ⊠ (⓪ ⊟ ⓪) ≈ ⓪) refl x)

    -- ── Sums with every wire so replaced ──

    pub replaced_ext : (c d : ℕ → F) (w : ℕ) → ((v : ℕ) → c v ≡ d v) → replaced O S c w ≡ replaced O S d w
    unfolding replaced
    replaced_ext c d w h = sum_ext L m _ _ (λ v _. ap (λ t. t ⊗ image O S v w) (h v))

    pub replaced_zero : (w : ℕ) → replaced O S (λ _. 𝟘) w ≡ 𝟘
    unfolding replaced
    replaced_zero w = sum_none L m _ (λ v _. zero_mul L.ring _)

    pub replaced_add : (c d : ℕ → F) (w : ℕ) → replaced O S (λ v. c v ⊕ d v) w ≡ replaced O S c w ⊕ replaced O S d w
    unfolding replaced
    replaced_add c d w = sum_ext L m _ _ (λ v _. add_mul L.ring (c v) (d v) (image O S v w)) ∙ sum_add L m _ _

    pub replaced_mul : (x : F) (c : ℕ → F) (w : ℕ) → replaced O S (λ v. x ⊗ c v) w ≡ x ⊗ replaced O S c w
    unfolding replaced
    replaced_mul x c w = sum_ext L m _ _ (λ v _. L.ring.mul_assoc x (c v) (image O S v w)) ∙ sum_mul L m x _

    -- one wire alone
    replaced_only : (i w : ℕ) (x : F) → i < m → replaced O S (λ v. only O i v x) w ≡ x ⊗ image O S i w
    unfolding replaced
    replaced_only i w x h =
        sum_one L m i _ h (λ v _ d. ap (λ t. t ⊗ image O S v w) (only_other L i v x (λ e. d (sym e))) ∙ zero_mul L.ring _)
        ∙ ap (λ t. t ⊗ image O S i w) (only_same L i i x refl)

    replaced_outside : (i w : ℕ) (x : F) → m ≤ i → replaced O S (λ v. only O i v x) w ≡ 𝟘
    unfolding replaced
    replaced_outside i w x h = sum_none L m _ (λ v k. ap (λ t. t ⊗ image O S v w) (only_other L i v x (λ e. omega arith)) ∙ zero_mul L.ring _)

    -- ── Entry by entry ──

    module _ (k : Combination F) where
      abbrev f : Entry F → F
      f e = matrix_factor O k e.matrix ⊗ e.coefficient

      abbrev mixed : ((matrix row wire : ℕ) → F) → ℕ → F
      mixed c v = k.a ⊗ c 0 k.row v ⊕ k.b ⊗ c 1 k.row v ⊕ k.c ⊗ c 2 k.row v

      mixed_more : (e : Entry F) (es : List (Entry F)) (v : ℕ)
          → mixed (position O (e ∷ es)) v ≡ only O e.row k.row (only O e.wire v (f e)) ⊕ mixed (position O es) v
      unfolding position
      mixed_more e es v =
          let y : F = only O e.row k.row (only O e.wire v e.coefficient) in
          let p : ℕ → F = λ matrix. position O es matrix k.row v in
          by_ring L.ring 9
          (λ a b c x y z p q r. a ⊠ (x ⊞ p) ⊞ b ⊠ (y ⊞ q) ⊞ c ⊠ (z ⊞ r) ≈ a ⊠ x ⊞ b ⊠ y ⊞ c ⊠ z ⊞ (a ⊠ p ⊞ b ⊠ q ⊞ c ⊠ r)) refl
          k.a k.b k.c (only O e.matrix 0 y) (only O e.matrix 1 y) (only O e.matrix 2 y) (p 0) (p 1) (p 2)
          ∙ ap (λ t. t ⊕ mixed (position O es) v)
          (ap₂ ◌⊕◌ (ap₂ ◌⊕◌ (only_moved e.matrix 0 k.a y) (only_moved e.matrix 1 k.b y)) (only_moved e.matrix 2 k.c y)
          ∙ by_ring L.ring 4 (λ a b c y. a ⊠ y ⊞ b ⊠ y ⊞ c ⊠ y ≈ (a ⊞ b ⊞ c) ⊠ y) refl
          (only O e.matrix 0 k.a) (only O e.matrix 1 k.b) (only O e.matrix 2 k.c) y
          ∙ only_mul e.row k.row (matrix_factor O k e.matrix) (only O e.wire v e.coefficient)
          ∙ ap (only O e.row k.row) (only_mul e.wire v (matrix_factor O k e.matrix) e.coefficient))

      module _ (w : ℕ) where
        abbrev W : List (Entry F) → F
        W es = weighted O S (position O es) k w

        pub weighted_none : W [] ≡ 𝟘
        unfolding weighted position
        weighted_none = replaced_ext _ _ w (λ v. by_ring L.ring 3 (λ a b c. a ⊠ ⓪ ⊞ b ⊠ ⓪ ⊞ c ⊠ ⓪ ≈ ⓪) refl k.a k.b k.c) ∙ replaced_zero w

        first_alone : (e : Entry F) (es : List (Entry F)) → W (e ∷ es) ≡ replaced O S (λ v. only O e.row k.row (only O e.wire v (f e))) w ⊕ W es
        unfolding weighted
        first_alone e es = replaced_ext _ _ w (mixed_more e es) ∙ replaced_add _ _ w

        alone : (e : Entry F) → W (e ∷ []) ≡ replaced O S (λ v. only O e.row k.row (only O e.wire v (f e))) w
        alone e = first_alone e [] ∙ ap (λ t. replaced O S (λ v. only O e.row k.row (only O e.wire v (f e))) w ⊕ t) weighted_none ∙ L.ring.add_zero _

        weighted_append : (xs ys : List (Entry F)) → W (xs ++ ys) ≡ W xs ⊕ W ys
        weighted_append [] ys = sym (ap (λ t. t ⊕ W ys) weighted_none ∙ zero_add L.ring (W ys))
        weighted_append (e ∷ xs) ys =
            first_alone e (xs ++ ys)
            ∙ ap (λ t. replaced O S (λ v. only O e.row k.row (only O e.wire v (f e))) w ⊕ t) (weighted_append xs ys)
            ∙ sym (L.ring.add_assoc _ _ _)
            ∙ ap (λ t. t ⊕ W ys) (sym (first_alone e xs))

        -- one entry more
        pub weighted_more : (es : List (Entry F)) (j : ℕ) (d : Entry F) → j < length es → W (take (j + 1) es) ≡ W (take j es) ⊕ W (get_or es j d ∷ [])
        weighted_more es j d h = ap W (take_more es j d h) ∙ weighted_append (take j es) (get_or es j d ∷ [])

        pub weighted_elsewhere : (e : Entry F) → e.row ≢ k.row → W (e ∷ []) ≡ 𝟘
        weighted_elsewhere e h = alone e ∙ replaced_ext _ _ w (λ v. only_other L e.row k.row _ h) ∙ replaced_zero w

        pub weighted_outside : (e : Entry F) → m ≤ e.wire → W (e ∷ []) ≡ 𝟘
        weighted_outside e h =
            elim (ℕ_discrete e.row k.row) [
              | yes r ↦ alone e ∙ replaced_ext _ _ w (λ v. only_same L e.row k.row _ r) ∙ replaced_outside e.wire w (f e) h
              | no r ↦ weighted_elsewhere e r
            ]

        pub weighted_here : (e : Entry F) → e.row ≡ k.row → e.wire < m → W (e ∷ []) ≡ f e ⊗ image O S e.wire w
        weighted_here e r h = alone e ∙ replaced_ext _ _ w (λ v. only_same L e.row k.row _ r) ∙ replaced_only e.wire w (f e) h

        -- ── Where all is zero ──

        pub own_none : k.first.wire ≢ w → k.second.wire ≢ w → combined O S (position O []) k w ≡ 𝟘
        own_none a b =
            unfold own in (
            ap₂ ◌⊕◌ (ap₂ ◌⊕◌ (only_other L k.first.wire w _ a) (only_other L k.second.wire w _ b)) weighted_none
            ∙ L.ring.add_zero _ ∙ L.ring.add_zero 𝟘)

        pub combined_more : (es : List (Entry F)) (j : ℕ) (d : Entry F) → j < length es → combined O S (position O (take j es)) k w ≡ 𝟘 → W (get_or es j d ∷ []) ≡ 𝟘
            → combined O S (position O (take (j + 1) es)) k w ≡ 𝟘
        combined_more es j d h a b =
            ap (λ t. own O k w ⊕ t) (weighted_more es j d h ∙ ap (λ t. W (take j es) ⊕ t) b ∙ L.ring.add_zero _) ∙ a

-- ── What an entry of a matrix counts for ──

module _ {F : Type 0} {O : Operations F} (L : Laws O) (k : Combination F) (matrix : ℕ) where
  open O use {zero as 𝟘, add as ◌⊕◌}

  infixl 60 ◌⊕◌
  pub factor_a : matrix ≡ 0 → k.a ≡ matrix_factor O k matrix
  factor_a e =
      sym (ap₂ ◌⊕◌ (ap₂ ◌⊕◌ (only_same L matrix 0 k.a e) (only_other L matrix 1 k.b (λ z. omega arith))) (only_other L matrix 2 k.c (λ z. omega arith))
      ∙ by_ring L.ring 1 (λ x. x ⊞ ⓪ ⊞ ⓪ ≈ x) refl k.a)

  pub factor_b : matrix ≡ 1 → k.b ≡ matrix_factor O k matrix
  factor_b e =
      sym (ap₂ ◌⊕◌ (ap₂ ◌⊕◌ (only_other L matrix 0 k.a (λ z. omega arith)) (only_same L matrix 1 k.b e)) (only_other L matrix 2 k.c (λ z. omega arith))
      ∙ by_ring L.ring 1 (λ x. ⓪ ⊞ x ⊞ ⓪ ≈ x) refl k.b)

  pub factor_c : matrix ≡ 2 → k.c ≡ matrix_factor O k matrix
  factor_c e =
      sym (ap₂ ◌⊕◌ (ap₂ ◌⊕◌ (only_other L matrix 0 k.a (λ z. omega arith)) (only_other L matrix 1 k.b (λ z. omega arith))) (only_same L matrix 2 k.c e)
      ∙ by_ring L.ring 1 (λ x. ⓪ ⊞ ⓪ ⊞ x ≈ x) refl k.c)

  pub factor_none : matrix ≢ 0 → matrix ≢ 1 → matrix ≢ 2 → 𝟘 ≡ matrix_factor O k matrix
  factor_none a b c =
      sym (ap₂ ◌⊕◌ (ap₂ ◌⊕◌ (only_other L matrix 0 k.a a) (only_other L matrix 1 k.b b)) (only_other L matrix 2 k.c c)
      ∙ L.ring.add_zero _ ∙ L.ring.add_zero 𝟘)
