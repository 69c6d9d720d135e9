-- Polynomials as lists of coefficients: what holds of coefficients as functions, said of lists.
use Rattle.std.proofs.Common.{◌≡◌, ℕ, zero, suc, ◌+◌, ◌-◌, ◌*◌, ◌%◌, ◌^◌, ◌<◌, ◌≤◌, List, [], ◌∷◌, ◌++◌, length, get_or, replicate, sym, refl, ap, ◌∙◌, subst, mod-lt, mul_comm, arith, pow_pos, pow-add}
use native.Mathlib.Decide.{dec_lt}
use lib.ListN.{get_or-eq_default}
use Rattle.field.specs.Operations.{Operations, power, ones, root_of_order}
use Rattle.field.specs.Laws.{Laws}
use Rattle.field.proofs.Ring.{zero_add, neg_zero}
use Rattle.transform.specs.Polynomial.{table, coefficient, value_at, product_at, vanishing, Root, Takes, Quotient}
use Rattle.transform.specs.Logarithm.{log2}
use Rattle.transform.specs.Theory.{Spreads}
use Rattle.transform.proofs.Logarithms.{log2_power}
use Rattle.transform.proofs.Powers.{power_mul, inverse_power, inverse_turn, power_turn}
use Rattle.transform.proofs.Roots.{chosen_root, root_full, root_inverse, root_power, ones≢zero}
use Rattle.transform.proofs.Sums.{sum_zero, sum_ext}
use Rattle.transform.proofs.Series.{Below, eval, interp, conv, mono, vanish, Multiple}
use Rattle.transform.proofs.Values.{eval_ext, eval_first}
use Rattle.transform.proofs.Interpolation.{interp_ext, interp_eval, eval_interp}
use Rattle.transform.proofs.Products.{conv_ext, conv_below}
use Rattle.transform.proofs.Quotients.{multiple_upper, multiple_values, values_multiple}
use Rattle.transform.proofs.Spread.{interp_spread}
use Rattle.transform.proofs.Tables.{length_table, get_or_table, is_table, table_ext}

module _ {F : Type 0} {O : Operations F} (L : Laws O) where
  open O use {zero as 𝟘, one as 𝟙, add as ◌⊕◌, mul as ◌⊗◌, neg, inverse, adicity}

  infixl 60 ◌⊕◌
  infixl 70 ◌⊗◌
  infixr 80 ◌^^◌
  abbrev ◌^^◌ : F → ℕ → F
  ◌^^◌ = power O

  -- ── Coefficients, values, products ──

  pub coefficient_past : (n : ℕ) (c : List F) → length c ≤ n → Below O n (coefficient O c)
  coefficient_past n c size i h = get_or-eq_default c 𝟘 (omega arith)

  pub value_is_eval : (n : ℕ) (c : List F) (x : F) → length c ≡ n → value_at O c x ≡ eval O n (coefficient O c) x
  unfolding value_at eval
  value_is_eval n c x size = ap (λ t. eval O t (coefficient O c) x) size

  -- Horner's rule
  pub value_nil : (x : F) → value_at O [] x ≡ 𝟘
  unfolding value_at
  value_nil x = sum_zero L _

  value_cons : (a : F) (c : List F) (x : F) → value_at O (a ∷ c) x ≡ a ⊕ x ⊗ value_at O c x
  unfolding value_at eval
  value_cons a c x = eval_first L (length c) (coefficient O (a ∷ c)) x

  pub value_step : (a x v m r : F) (c : List F) → v ≡ value_at O c x → m ≡ v ⊗ x → r ≡ m ⊕ a → r ≡ value_at O (a ∷ c) x
  value_step a x v m r c value product total =
      total
      ∙ ap (λ t. t ⊕ a) (product ∙ ap (λ t. t ⊗ x) value ∙ L.ring.mul_comm (value_at O c x) x)
      ∙ L.ring.add_comm (x ⊗ value_at O c x) a
      ∙ sym (value_cons a c x)

  pub product_is_conv : (u v : List F) (e : ℕ) → product_at O u v e ≡ conv O (coefficient O u) (coefficient O v) e
  unfolding product_at conv
  product_is_conv u v e = refl

  -- X^n - 1
  pub vanishing_is_vanish : (n : ℕ) → 0 < n → (i : ℕ) → coefficient O (vanishing O n) i ≡ vanish O n i
  unfolding mono
  vanishing_is_vanish n pos i =
      let whole : suc (n - 1) ≡ n = omega arith in
      at (n - 1) i ∙ ap (λ t. vanish O t i) whole
    where
      above : (m i : ℕ) → get_or (replicate m 𝟘 ++ (𝟙 ∷ [])) i 𝟘 ≡ mono O m i
      above zero zero = refl
      above zero (suc i) = refl
      above (suc m) zero = refl
      above (suc m) (suc i) = above m i

      at : (m i : ℕ) → get_or (neg 𝟙 ∷ (replicate m 𝟘 ++ (𝟙 ∷ []))) i 𝟘 ≡ vanish O (suc m) i
      at m zero = sym (zero_add L.ring (neg 𝟙))
      at m (suc i) = above m i ∙ sym (ap (λ t. mono O m i ⊕ t) (neg_zero L.ring) ∙ L.ring.add_zero (mono O m i))

  pub product_vanishing : (n : ℕ) → 0 < n → (h : List F) (e : ℕ) → product_at O h (vanishing O n) e ≡ conv O (coefficient O h) (vanish O n) e
  product_vanishing n pos h e = product_is_conv h (vanishing O n) e ∙ conv_ext L _ _ _ _ (λ _. refl) (vanishing_is_vanish n pos) e

  -- ── Interpolation ──

  -- 1/n
  pub size_inverse : (e : ℕ) → ones O (2 ^ e) ⊗ inverse (ones O (2 ^ e)) ≡ 𝟙
  size_inverse e = L.mul_inverse (ones O (2 ^ e)) (ones≢zero L e)

  -- with w = 1/ω and s = 1/n the coefficients are those of `interp`
  module _ (e : ℕ) (ω w s : F) (root : Root O e ω) (inv : ω ⊗ w ≡ 𝟙) (size : ones O (2 ^ e) ⊗ s ≡ 𝟙) where
    pub interp_takes : (y : ℕ → F) → Takes O (2 ^ e) ω y (table (2 ^ e) (interp O (2 ^ e) w s y))
    interp_takes y =
        record {
          size = length_table (2 ^ e) _;
          values = λ r h.
              value_is_eval (2 ^ e) (table (2 ^ e) (interp O (2 ^ e) w s y)) (ω ^^ r) (length_table (2 ^ e) _)
              ∙ eval_ext L (2 ^ e) _ _ (ω ^^ r) (get_or_table (2 ^ e) (interp O (2 ^ e) w s y) 𝟘)
              ∙ eval_interp L e ω w s root inv size y r h;
        }

    -- the same by values of the polynomial that has the values as its coefficients
    pub values_take : (y : List F) → length y ≡ 2 ^ e → Takes O (2 ^ e) ω (coefficient O y) (table (2 ^ e) (λ j. s ⊗ value_at O y (w ^^ j)))
    unfolding interp eval
    values_take y len = subst (Takes O (2 ^ e) ω (coefficient O y)) (table_ext 𝟘 (2 ^ e) _ _ is) (interp_takes (coefficient O y))
      where
        is : (j : ℕ) → j < 2 ^ e → interp O (2 ^ e) w s (coefficient O y) j ≡ s ⊗ value_at O y (w ^^ j)
        is j _ =
            ap (λ t. s ⊗ t)
            (sum_ext L (2 ^ e) _ _ (λ r _. ap (λ t. coefficient O y r ⊗ t) (ap (λ t. w ^^ t) (mul_comm r j) ∙ power_mul L w j r))
            ∙ sym (value_is_eval (2 ^ e) y (w ^^ j) len))

    pub takes_coefficient : (y : ℕ → F) (c : List F) → Takes O (2 ^ e) ω y c → (j : ℕ) → j < 2 ^ e → coefficient O c j ≡ interp O (2 ^ e) w s y j
    takes_coefficient y c t j h =
        sym (interp_eval L e ω w s root inv size (coefficient O c) j h)
        ∙ interp_ext L (2 ^ e) w s _ y j (λ r l. sym (value_is_eval (2 ^ e) c (ω ^^ r) t.size) ∙ t.values r l)

    pub takes_interp : (y : ℕ → F) (c : List F) → Takes O (2 ^ e) ω y c → c ≡ table (2 ^ e) (interp O (2 ^ e) w s y)
    takes_interp y c t = is_table 𝟘 c (2 ^ e) _ t.size (takes_coefficient y c t)

  module _ (e : ℕ) (ω : F) (root : Root O e ω) where
    pub takes_exists : (y : ℕ → F) → (c : List F) × Takes O (2 ^ e) ω y c
    takes_exists y = (_, interp_takes e ω _ _ root (root_inverse L e ω root) (size_inverse e) y)

    pub takes_unique : (y : ℕ → F) (c d : List F) → Takes O (2 ^ e) ω y c → Takes O (2 ^ e) ω y d → c ≡ d
    takes_unique y c d t t' = is y c t ∙ sym (is y d t')
      where
        is : (y : ℕ → F) (c : List F) → Takes O (2 ^ e) ω y c → c ≡ table (2 ^ e) (interp O (2 ^ e) (ω ^^ (2 ^ e - 1)) (inverse (ones O (2 ^ e))) y)
        is = takes_interp e ω _ _ root (root_inverse L e ω root) (size_inverse e)

  pub takes_ext : (n : ℕ) (ω : F) (y z : ℕ → F) (c : List F) → ((r : ℕ) → r < n → y r ≡ z r) → Takes O n ω y c → Takes O n ω z c
  takes_ext n ω y z c h t = record { size = t.size; values = λ r l. t.values r l ∙ h r l }

  -- at the root ω that the field has chosen for the n values
  pub chosen_take : (e : ℕ) (ω n w s : F) (y z c : List F) (places : ℕ)
      → e ≤ adicity → length y ≡ 2 ^ e → places ≡ 2 ^ e → ω ≡ root_of_order O e → n ≡ ones O (2 ^ e) → ω ⊗ w ≡ 𝟙 → n ⊗ s ≡ 𝟙
      → z ≡ y → c ≡ table places (λ j. s ⊗ value_at O z (w ^^ j))
      → Takes O (length y) (root_of_order O (log2 (length y))) (coefficient O y) c
  chosen_take e ω n w s y z c places h len room root ones inv size same is =
      let log : log2 (length y) ≡ e = ap log2 len ∙ log2_power e in
      rw (log, len, is, room, same)
      (values_take e (root_of_order O e) w s (chosen_root L e h) (rw root at inv) (rw ones at size) y len)

  -- ── The quotient ──

  abbrev upper : ℕ → List F → List F
  upper n u = table (n - 1) (λ j. product_at O u u (n + j))

  upper_is : (n : ℕ) (u : List F) → length u ≡ n → (j : ℕ) → coefficient O (upper n u) j ≡ conv O (coefficient O u) (coefficient O u) (n + j)
  upper_is n u size j =
      elim (dec_lt j (n - 1)) [
        | yes l ↦ get_or_table (n - 1) _ 𝟘 j l ∙ product_is_conv u u (n + j)
        | no l ↦ coefficient_past (n - 1) (upper n u) (omega (arith, length_table (n - 1) (λ j. product_at O u u (n + j)))) j (omega arith)
            ∙ sym (conv_below L n n _ _ (coefficient_past n u (omega arith)) (coefficient_past n u (omega arith)) (n + j) (omega arith))
      ]

  quotient_multiple : (n : ℕ) → 0 < n → (u w h : List F) → Quotient O n u w h → Multiple O n (coefficient O u) (coefficient O w) (coefficient O h)
  quotient_multiple n pos u w h q e =
      ap (λ t. t ⊕ neg (coefficient O w e)) (sym (product_is_conv u u e)) ∙ q.equal e ∙ product_vanishing n pos h e

  -- the quotient can be nothing but the upper part of the square
  pub quotient_upper : (n : ℕ) → 0 < n → (u w h : List F) → length w ≡ n → Quotient O n u w h → h ≡ table (n - 1) (λ j. product_at O u u (n + j))
  quotient_upper n pos u w h size q =
      is_table 𝟘 h (n - 1) _ q.size (λ j _. is j ∙ sym (product_is_conv u u (n + j)))
    where
      is : (j : ℕ) → coefficient O h j ≡ conv O (coefficient O u) (coefficient O u) (n + j)
      is =
          multiple_upper L n _ _ _
          (coefficient_past n w (omega arith))
          (coefficient_past n h (omega (arith, q.size)))
          (quotient_multiple n pos u w h q)

  module _ (e : ℕ) (ω : F) (root : Root O e ω) (u w : List F) (su : length u ≡ 2 ^ e) (sw : length w ≡ 2 ^ e) where
    -- it exists exactly where u² and w agree at the n powers of ω
    pub quotient_values : (h : List F) → Quotient O (2 ^ e) u w h
        → (r : ℕ) → r < 2 ^ e → value_at O u (ω ^^ r) ⊗ value_at O u (ω ^^ r) ≡ value_at O w (ω ^^ r)
    quotient_values h q r _ =
        ap (λ t. t ⊗ t) (value_is_eval (2 ^ e) u (ω ^^ r) su)
        ∙ multiple_values L (2 ^ e) _ _ _
        (coefficient_past (2 ^ e) u (omega arith))
        (coefficient_past (2 ^ e) w (omega arith))
        (coefficient_past (2 ^ e) h (omega (arith, q.size)))
        (quotient_multiple (2 ^ e) (pow_pos e) u w h q)
        (ω ^^ r) (power_turn L (2 ^ e) ω (root_full L e ω root) r)
        ∙ sym (value_is_eval (2 ^ e) w (ω ^^ r) sw)

    pub values_quotient : ((r : ℕ) → r < 2 ^ e → value_at O u (ω ^^ r) ⊗ value_at O u (ω ^^ r) ≡ value_at O w (ω ^^ r))
        → Quotient O (2 ^ e) u w (table (2 ^ e - 1) (λ j. product_at O u u (2 ^ e + j)))
    values_quotient agree = record { size = length_table (2 ^ e - 1) _; equal = equal }
      where
        multiple : Multiple O (2 ^ e) (coefficient O u) (coefficient O w) (λ j. conv O (coefficient O u) (coefficient O u) (2 ^ e + j))
        multiple =
            values_multiple L e ω _ _ root (root_inverse L e ω root) (size_inverse e) (coefficient O u) (coefficient O w)
            (coefficient_past (2 ^ e) u (omega arith)) (coefficient_past (2 ^ e) w (omega arith))
            (λ r l. ap (λ t. t ⊗ t) (sym (value_is_eval (2 ^ e) u (ω ^^ r) su)) ∙ agree r l ∙ value_is_eval (2 ^ e) w (ω ^^ r) sw)

        equal : (i : ℕ) → product_at O u u i ⊕ neg (coefficient O w i) ≡ product_at O (upper (2 ^ e) u) (vanishing O (2 ^ e)) i
        equal i =
            ap (λ t. t ⊕ neg (coefficient O w i)) (product_is_conv u u i)
            ∙ multiple i
            ∙ sym (product_vanishing (2 ^ e) (pow_pos e) (upper (2 ^ e) u) i ∙ conv_ext L _ _ _ _ (upper_is (2 ^ e) u su) (λ _. refl) i)

  -- ── Values that vanish off the multiples of a stride ──

  pub takes_spread : (d a : ℕ) (ω : F) → Root O (a + d) ω → Spreads O d a ω
  takes_spread d a ω root y c p zeros tc tp j h =
      takes_coefficient (a + d) ω w s root (root_inverse L (a + d) ω root) (size_inverse (a + d)) y c tc j h
      ∙ ap (λ t. interp O t w s y j) (pow-add 2 a d)
      ∙ interp_spread L (2 ^ a) (2 ^ d) w s (inverse (ones O (2 ^ a))) y (pow_pos d) turn (size_inverse a) zeros j
      ∙ ap (λ t. ones O (2 ^ a) ⊗ s ⊗ t)
      (sym (takes_coefficient a (ω ^^ (2 ^ d)) (w ^^ (2 ^ d)) (inverse (ones O (2 ^ a))) (root_power L a d ω root)
      (inverse_power L ω w (root_inverse L (a + d) ω root) (2 ^ d)) (size_inverse a)
      (λ t. y (t * 2 ^ d)) p tp (j % 2 ^ a) (mod-lt j (pow_pos a))))
    where
      w : F
      w = ω ^^ (2 ^ (a + d) - 1)

      s : F
      s = inverse (ones O (2 ^ (a + d)))

      turn : w ^^ (2 ^ a * 2 ^ d) ≡ 𝟙
      turn = ap (λ t. w ^^ t) (sym (pow-add 2 a d)) ∙ inverse_turn L (2 ^ (a + d)) ω w (root_full L (a + d) ω root) (root_inverse L (a + d) ω root)
