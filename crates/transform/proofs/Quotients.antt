-- When u² - w is a multiple of X^n - 1, with the coefficients as functions.
use Rattle.std.proofs.Common.{◌≡◌, ℕ, suc, ◌+◌, ◌-◌, ◌^◌, ◌<◌, ◌≤◌, [], ◌∷◌, sym, refl, ap, ◌∙◌, ap₂, arith}
use native.Mathlib.Decide.{dec_lt}
use Rattle.field.specs.Operations.{Operations, power, ones}
use Rattle.field.specs.Laws.{Laws}
use Rattle.field.proofs.Ring.{mul_zero, eq_of_sub}
use Rattle.field.proofs.Solve.{⓪, ①, ◌⊞◌, ◌⊟◌, ∸◌, ◌≈◌, by_ring, ◌by◌, ◌⊢◌, by_ring_from}
use Rattle.transform.specs.Polynomial.{Root}
use Rattle.transform.proofs.Powers.{power_turn}
use Rattle.transform.proofs.Roots.{root_full}
use Rattle.transform.proofs.Series.{Below, eval, conv, mono, vanish, Multiple}
use Rattle.transform.proofs.Values.{eval_ext, eval_add, eval_neg, eval_longer, eval_fold, eval_vanish, vanish_below}
use Rattle.transform.proofs.Interpolation.{eval_unique}
use Rattle.transform.proofs.Products.{eval_conv, conv_below, conv_mono, conv_mono_low, conv_vanish}

module _ {F : Type 0} {O : Operations F} (L : Laws O) where
  open O use {zero as 𝟘, one as 𝟙, add as ◌⊕◌, mul as ◌⊗◌, neg}

  infixl 60 ◌⊕◌
  infixl 70 ◌⊗◌
  infixr 80 ◌^^◌
  abbrev ◌^^◌ : F → ℕ → F
  ◌^^◌ = power O

  -- the quotient can be nothing but the upper part of the square
  pub multiple_upper : (n : ℕ) (u w h : ℕ → F) → Below O n w → Below O n h → Multiple O n u w h → (j : ℕ) → h j ≡ conv O u u (n + j)
  multiple_upper n u w h zw zh m j =
      by_ring_from L.ring 4
      (λ c a k b. ∸ ① by (c ⊟ a ≈ k ⊟ b) ∷ ∸ ① by (a ≈ ⓪) ∷ ① by (b ≈ ⓪) ∷ [] ⊢ k ≈ c) refl
      (conv O u u (n + j)) (w (n + j)) (h j) (h (n + j))
      (m (n + j) ∙ conv_vanish L h n (n + j) ∙ ap (λ t. t ⊕ neg (h (n + j))) (conv_mono L h n j))
      (zw (n + j) (omega arith)) (zh (n + j) (omega arith))

  -- with a quotient, u² and w agree where x^n = 1
  pub multiple_values : (n : ℕ) (u w h : ℕ → F) → Below O n u → Below O n w → Below O n h → Multiple O n u w h
      → (x : F) → x ^^ n ≡ 𝟙 → eval O n u x ⊗ eval O n u x ≡ eval O n w x
  multiple_values n u w h zu zw zh m x full =
      eq_of_sub L.ring (eval O n u x ⊗ eval O n u x) (eval O n w x)
      (sym left ∙ eval_ext L N _ _ x (λ i _. m i) ∙ right)
    where
      N : ℕ
      N = n + suc n

      left : eval O N (λ i. conv O u u i ⊕ neg (w i)) x ≡ eval O n u x ⊗ eval O n u x ⊕ neg (eval O n w x)
      left =
          eval_add L N (conv O u u) (λ i. neg (w i)) x
          ∙ ap₂ ◌⊕◌ (eval_conv L n n N u u x (omega arith) zu zu) (eval_neg L N w x ∙ ap neg (eval_longer L n N w x (omega arith) zw))

      right : eval O N (conv O h (vanish O n)) x ≡ 𝟘
      right =
          eval_conv L n (suc n) N h (vanish O n) x (omega arith) zh (vanish_below L n)
          ∙ ap (λ t. eval O n h x ⊗ t) (eval_vanish L n x ∙ ap (λ t. t ⊕ neg 𝟙) full ∙ L.ring.add_neg 𝟙)
          ∙ mul_zero L.ring (eval O n h x)

  -- and where they agree at the n powers of a root, the upper part of u² is a quotient
  pub values_multiple : (e : ℕ) (ω w⁻ s : F) → Root O e ω → ω ⊗ w⁻ ≡ 𝟙 → ones O (2 ^ e) ⊗ s ≡ 𝟙
      → (u w : ℕ → F) → Below O (2 ^ e) u → Below O (2 ^ e) w
      → ((r : ℕ) → r < 2 ^ e → eval O (2 ^ e) u (ω ^^ r) ⊗ eval O (2 ^ e) u (ω ^^ r) ≡ eval O (2 ^ e) w (ω ^^ r))
      → Multiple O (2 ^ e) u w (λ j. conv O u u (2 ^ e + j))
  values_multiple e ω w⁻ s root inv size u w zu zw agree i =
      elim (dec_lt i n) [ yes l ↦ low l | no l ↦ high (omega arith) ]
    where
      n : ℕ
      n = 2 ^ e

      c : ℕ → F
      c = conv O u u

      h : ℕ → F
      h j = c (n + j)

      folded : (i : ℕ) → i < n → c i ⊕ h i ≡ w i
      folded =
          eval_unique L e ω w⁻ s root inv size (λ i. c i ⊕ h i) w
          (λ r l. eval_fold L n c (ω ^^ r) (power_turn L n ω (root_full L e ω root) r)
          ∙ eval_conv L n n (n + n) u u (ω ^^ r) (omega arith) zu zu
          ∙ agree r l)

      low : i < n → c i ⊕ neg (w i) ≡ conv O h (vanish O n) i
      low l =
          ap (λ t. c i ⊕ neg t) (sym (folded i l))
          ∙ by_ring L.ring 2 (λ a b. a ⊟ (a ⊞ b) ≈ ⓪ ⊟ b) refl (c i) (h i)
          ∙ ap (λ t. t ⊕ neg (h i)) (sym (conv_mono_low L h n i l))
          ∙ sym (conv_vanish L h n i)

      high : n ≤ i → c i ⊕ neg (w i) ≡ conv O h (vanish O n) i
      high l =
          let whole : n + (i - n) ≡ i = omega arith in
          let moved : conv O h (mono O n) i ≡ c i = ap (conv O h (mono O n)) (sym whole) ∙ conv_mono L h n (i - n) ∙ ap c whole in
          let short : h i ≡ 𝟘 = conv_below L n n u u zu zu (n + i) (omega arith) in
          ap (λ t. c i ⊕ neg t) (zw i l) ∙ sym (conv_vanish L h n i ∙ ap₂ (λ a b. a ⊕ neg b) moved short)
