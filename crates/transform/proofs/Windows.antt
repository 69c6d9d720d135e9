-- A coefficient of a product, from the parts of its factors that meet in it.
use Rattle.std.proofs.Common.{◌≡◌, ℕ, suc, ◌+◌, ◌-◌, ◌<◌, ◌≤◌, List, [], ◌∷◌, ◌++◌, length, sym, ap, ◌∙◌, ap₂, arith, length-append}
use Rattle.std.proofs.lemmas.List.{get_or_at, get_or_append_left, get_or_past, nil_from_length}
use Rattle.std.proofs.lemmas.List.Edits.{length-between, get_or-between}
use Rattle.std.specs.List.{between}
use Rattle.field.specs.Operations.{Operations, sum}
use Rattle.field.specs.Laws.{Laws}
use Rattle.field.proofs.Ring.{zero_add, zero_mul, mul_zero}
use Rattle.transform.specs.Polynomial.{coefficient, product_at}
use Rattle.transform.proofs.Sums.{sum_zero, sum_ext, sum_none, sum_first, sum_short, sum_split}

module _ {F : Type 0} {O : Operations F} (L : Laws O) where
  open O use {zero as 𝟘, add as ◌⊕◌, mul as ◌⊗◌}

  infixl 60 ◌⊕◌
  infixl 70 ◌⊗◌
  -- ── The middle coefficient of the product of two lists of one length ──

  abbrev middle : List F → List F → F
  middle a b = product_at O a b (length a - 1)

  middle_none : middle [] [] ≡ 𝟘
  unfolding product_at sum
  middle_none = zero_add L.ring (𝟘 ⊗ 𝟘) ∙ mul_zero L.ring 𝟘

  -- over the places of the first list alone
  middle_sum : (a b : List F) → length a ≡ length b → middle a b ≡ sum O (length a) (λ i. coefficient O a i ⊗ coefficient O b (length a - suc i))
  unfolding product_at
  middle_sum [] [] size = middle_none ∙ sym (sum_zero L _)
  middle_sum [] (y ∷ b) size = absurd (omega arith)
  middle_sum (x ∷ a) b size =
      let last : suc (length a) - 1 ≡ length a = omega arith in
      ap (λ t. sum O (suc t) (λ i. coefficient O (x ∷ a) i ⊗ coefficient O b (t - i))) last
      ∙ sum_ext L (suc (length a)) _ _ (λ i _. let same : length a - i ≡ suc (length a) - suc i = omega arith in ap (λ t. coefficient O (x ∷ a) i ⊗ coefficient O b t) same)

  -- the first of the one meets the last of the other
  middle_first : (x y : F) (a b : List F) → length a ≡ length b → middle (x ∷ a) (b ++ (y ∷ [])) ≡ x ⊗ y ⊕ middle a b
  middle_first x y a b size =
      middle_sum (x ∷ a) (b ++ (y ∷ [])) (omega (arith, length-append b (y ∷ [])))
      ∙ sum_first L (length a) _
      ∙ ap₂ ◌⊕◌ (ap (λ t. x ⊗ t) (get_or_at b y [] 𝟘 _ (omega arith))) (sum_ext L (length a) _ _ others ∙ sym (middle_sum a b size))
    where
      others : (i : ℕ) → i < length a
          → coefficient O a i ⊗ coefficient O (b ++ (y ∷ [])) (suc (length a) - suc (suc i)) ≡ coefficient O a i ⊗ coefficient O b (length a - suc i)
      others i h =
          let same : suc (length a) - suc (suc i) ≡ length a - suc i = omega arith in
          ap (λ t. coefficient O a i ⊗ t) (ap (coefficient O (b ++ (y ∷ []))) same ∙ get_or_append_left b (y ∷ []) 𝟘 (length a - suc i) (omega arith))

  -- ── As a total that grows by one product a turn, while the lists shrink ──

  pub middle_start : (total : F) (a a' b b' : List F) → total ≡ 𝟘 → a ≡ a' → b ≡ b' → total ⊕ middle a b ≡ middle a' b'
  middle_start total a a' b b' z p q = ap₂ ◌⊕◌ z (ap₂ middle p q) ∙ zero_add L.ring (middle a' b')

  pub middle_more : (x y xy total total' all : F) (a a' b b' : List F) → xy ≡ x ⊗ y → total' ≡ total ⊕ xy → a ≡ x ∷ a' → b ≡ b' ++ (y ∷ [])
      → length a ≡ length b → total ⊕ middle a b ≡ all → (length a' ≡ length b') × (total' ⊕ middle a' b' ≡ all)
  middle_more x y xy total total' all a a' b b' m t p q size h =
      let size' : length a' ≡ length b' = omega (arith, ap length p, ap length q, length-append b' (y ∷ [])) in (
        size',
        ap (λ t. t ⊕ middle a' b') (t ∙ ap (λ z. total ⊕ z) m)
            ∙ L.ring.add_assoc total (x ⊗ y) (middle a' b')
            ∙ ap (λ z. total ⊕ z) (sym (ap₂ middle p q ∙ middle_first x y a' b' size'))
            ∙ h,
      )

  pub middle_all : (total all : F) (a b : List F) → length a ≡ length b → length a ≡ 0 → total ⊕ middle a b ≡ all → total ≡ all
  middle_all total all a b size none h =
      let p : a ≡ [] = nil_from_length a none in
      let q : b ≡ [] = nil_from_length b (sym size ∙ none) in
      sym (ap (λ t. total ⊕ t) (ap₂ middle p q ∙ middle_none) ∙ L.ring.add_zero total) ∙ h

  -- ── Any coefficient of a product is the middle one of the product of two windows ──

  -- the places first .. end of u meet lo .. hi of v, backwards, and no others meet inside both lists
  pub product_window : (u v : List F) (e first end lo hi : ℕ)
      → first ≤ end → end ≤ length u → hi ≤ length v → lo + end ≡ suc e → hi + first ≡ suc e
      → ((i : ℕ) → i < first → length v ≤ e - i) → ((i : ℕ) → end ≤ i → i ≤ e → length u ≤ i)
      → middle (between first end u) (between lo hi v) ≡ product_at O u v e
  unfolding product_at
  product_window u v e first end lo hi order in-u in-v low high before behind =
      middle_sum (between first end u) (between lo hi v) (size_u ∙ sym size_v)
      ∙ ap (λ n. sum O n (λ i. coefficient O (between first end u) i ⊗ coefficient O (between lo hi v) (n - suc i))) size_u
      ∙ sum_ext L (end - first) _ (λ i. f (first + i)) meet
      ∙ sym
      (sum_short L end (suc e) f (omega arith) gone_u
      ∙ ap (λ n. sum O n f) whole
      ∙ sum_split L first (end - first) f
      ∙ ap (λ t. t ⊕ sum O (end - first) (λ i. f (first + i))) (sum_none L first f gone_v)
      ∙ zero_add L.ring _)
    where
      f : ℕ → F
      f i = coefficient O u i ⊗ coefficient O v (e - i)

      whole : end ≡ first + (end - first)
      whole = omega arith

      size_u : length (between first end u) ≡ end - first
      size_u = length-between u first end in-u

      size_v : length (between lo hi v) ≡ end - first
      size_v = length-between v lo hi in-v ∙ omega arith

      meet : (i : ℕ) → i < end - first → coefficient O (between first end u) i ⊗ coefficient O (between lo hi v) (end - first - suc i) ≡ f (first + i)
      meet i h =
          let place : lo + (end - first - suc i) ≡ e - (first + i) = omega arith in
          ap₂ ◌⊗◌ (get_or-between u first end i 𝟘 (omega arith)) (get_or-between v lo hi (end - first - suc i) 𝟘 (omega arith) ∙ ap (coefficient O v) place)

      gone_u : (i : ℕ) → end ≤ i → i < suc e → f i ≡ 𝟘
      gone_u i h l = ap (λ t. t ⊗ coefficient O v (e - i)) (get_or_past u i 𝟘 (behind i h (omega arith))) ∙ zero_mul L.ring _

      gone_v : (i : ℕ) → i < first → f i ≡ 𝟘
      gone_v i h = ap (λ t. coefficient O u i ⊗ t) (get_or_past v (e - i) 𝟘 (before i h)) ∙ mul_zero L.ring _
