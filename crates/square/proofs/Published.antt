-- What public writes: k/n times the coefficients that take the sums of the public rows, repeated.
use Rattle.std.proofs.Common.{◌≡◌, ℕ, zero, suc, ◌+◌, ◌-◌, ◌*◌, ◌%◌, ◌^◌, ◌<◌, ◌≤◌, List, [], ◌∷◌, ◌++◌, length, sym, refl, ap, ◌∙◌, subst, ap₂, length-append, mod-lt, mod-eq_of_lt, mul_comm, le-mul_of_pos_right, arith, pow_pos}
use native.Mathlib.Decide.{dec_lt}
use native.Mathlib.Nat.{mod-eq-sub-mod}
use Rattle.std.proofs.lemmas.List.{get_or_append_left, get_or-append_right}
use Rattle.field.specs.Operations.{Operations, power, ones}
use Rattle.field.specs.Laws.{Laws}
use Rattle.field.proofs.Solve.{①, ◌⊞◌, ◌⊠◌, ∸◌, ◌≈◌, ◌by◌, ◌⊢◌, by_ring_from}
use Rattle.transform.specs.Polynomial.{table, coefficient, value_at, Root}
use Rattle.transform.proofs.Sums.{sum_ext}
use Rattle.transform.proofs.Powers.{power_zero, power_suc, power_add, power_mul}
use Rattle.transform.proofs.Roots.{root_full, root_power, ones_one, ones_double}
use Rattle.transform.proofs.Series.{eval, interp}
use Rattle.transform.proofs.Tables.{length_table, get_or_table, is_table}
use Rattle.transform.proofs.Polynomials.{value_is_eval, size_inverse, interp_takes}
use Rattle.sheet.specs.Shape.{Shape, log_k, k, log_of_n, n, stride}
use Rattle.square.specs.Program.{half, u_row}
use Rattle.square.specs.Polynomials.{ω, PublicOf}
use Rattle.square.proofs.Fits.{Fits, log_stride, log_whole, stride_is, stride_whole}

module _ {F : Type 0} {O : Operations F} (L : Laws O) where
  open O use {zero as 𝟘, one as 𝟙, add as ◌⊕◌, mul as ◌⊗◌, inverse}

  infixl 60 ◌⊕◌
  infixl 70 ◌⊗◌
  infixr 80 ◌^^◌
  abbrev ◌^^◌ : F → ℕ → F
  ◌^^◌ = power O

  -- a power of one half is one over that power of two
  half_power : (e : ℕ) → ones O (2 ^ e) ⊗ half O ^^ e ≡ 𝟙
  half_power zero = ap₂ ◌⊗◌ (ones_one L) (power_zero L (half O)) ∙ L.ring.mul_one 𝟙
  half_power (suc e) =
      ap₂ ◌⊗◌ (ones_double L e) (power_suc L (half O) e)
      ∙ by_ring_from L.ring 3
      (λ c h p. (① ⊞ ①) ⊠ h by (c ⊠ p ≈ ①) ∷ ① by ((① ⊞ ①) ⊠ h ≈ ①) ∷ [] ⊢ (c ⊞ c) ⊠ (h ⊠ p) ≈ ①)
      refl (ones O (2 ^ e)) (half O) (half O ^^ e) (half_power e) (L.mul_inverse (𝟙 ⊕ 𝟙) L.two)

  -- the first places again and again
  repeated : (count all : ℕ) (f : ℕ → F) (first rest : List F) → 0 < count → first ≡ table count f → rest ≡ table (all - count) (λ e. coefficient O first (e % length first))
      → (e : ℕ) → e < all → coefficient O (first ++ rest) e ≡ f (e % count)
  repeated count all f first rest some first-is rest-is e h =
      elim (dec_lt e count) [
        | yes l ↦
            let l' : e < length first = omega (arith, size) in
            get_or_append_left first rest 𝟘 e l' ∙ once e l ∙ ap f (sym (mod-eq_of_lt l))
        | no l ↦
            let past : count ≤ e = omega arith in
            get_or-append_right first rest count e 𝟘 size past
            ∙ ap (λ t. coefficient O t (e - count)) rest-is
            ∙ get_or_table (all - count) _ 𝟘 (e - count) (omega arith)
            ∙ ap (λ t. coefficient O first ((e - count) % t)) size
            ∙ once ((e - count) % count) (mod-lt (e - count) some)
            ∙ ap f (sym (mod-eq-sub-mod past))
      ]
    where
      size : length first ≡ count
      size = ap length first-is ∙ length_table count f

      once : (i : ℕ) → i < count → coefficient O first i ≡ f i
      once i l = ap (λ t. coefficient O t i) first-is ∙ get_or_table count f 𝟘 i l

  module _ (S : Shape) (fits : Fits S) (root : Root O (log_of_n S) (ω O S)) where
    -- 1/ω^stride
    abbrev pub step : F
    step = ω O S ^^ (n S - stride S)

    -- 1/n
    abbrev pub scale : F
    scale = half O ^^ log_of_n S

    abbrev point : F
    point = ω O S ^^ stride S

    step_inverse : point ⊗ step ≡ 𝟙
    step_inverse =
        let some : stride S ≤ stride S * k S = le-mul_of_pos_right (stride S) (pow_pos (log_k S)) in
        let all : stride S * k S ≡ n S = mul_comm (stride S) (k S) ∙ stride_whole S fits in
        let whole : stride S + (n S - stride S) ≡ n S = omega arith in
        sym (power_add L (ω O S) (stride S) (n S - stride S)) ∙ ap (λ t. ω O S ^^ t) whole ∙ root_full L (log_of_n S) (ω O S) root

    point_root : Root O (log_k S) point
    point_root =
        subst (λ t. Root O (log_k S) (ω O S ^^ t)) (sym (stride_is S fits))
        (root_power L (log_k S) (log_stride S fits) (ω O S) (subst (λ t. Root O t (ω O S)) (sym (log_whole S fits)) root))

    module _ (y : ℕ → F) where
      abbrev p : List F
      p = table (k S) (interp O (k S) step (inverse (ones O (k S))) y)

      -- the sums' value at a power of the step
      value_of_sums : (e : ℕ) → value_at O (table (k S) y) (step ^^ e) ≡ eval O (k S) y (step ^^ e)
      unfolding eval
      value_of_sums e =
          value_is_eval L (k S) (table (k S) y) (step ^^ e) (length_table (k S) y)
          ∙ sum_ext L (k S) _ _ (λ r h. ap (λ t. t ⊗ (step ^^ e) ^^ r) (get_or_table (k S) y 𝟘 r h))

      coefficient_of_sums : (e : ℕ) → e < k S → coefficient O p e ≡ inverse (ones O (k S)) ⊗ eval O (k S) y (step ^^ e)
      unfolding eval interp
      coefficient_of_sums e h =
          get_or_table (k S) (interp O (k S) step (inverse (ones O (k S))) y) 𝟘 e h
          ∙ ap (λ t. inverse (ones O (k S)) ⊗ t)
          (sum_ext L (k S) _ _ (λ r _. ap (λ t. y r ⊗ t) (ap (λ t. step ^^ t) (mul_comm r e) ∙ power_mul L step e r)))

      scaled : (e : ℕ) → e < k S
          → ones O (k S) ⊗ inverse (ones O (n S)) ⊗ coefficient O p e ≡ scale ⊗ value_at O (table (k S) y) (step ^^ e)
      scaled e h =
          ap (λ t. ones O (k S) ⊗ inverse (ones O (n S)) ⊗ t) (coefficient_of_sums e h)
          ∙ by_ring_from L.ring 6
          (λ a s b i q v. i ⊠ v by (a ⊠ s ≈ ①) ∷ ∸ (v ⊠ i) by (b ⊠ q ≈ ①) ∷ v ⊠ q by (b ⊠ i ≈ ①) ∷ [] ⊢ a ⊠ i ⊠ (s ⊠ v) ≈ q ⊠ v)
          refl (ones O (k S)) (inverse (ones O (k S))) (ones O (n S)) (inverse (ones O (n S))) scale (eval O (k S) y (step ^^ e))
          (size_inverse L (log_k S)) (half_power (log_of_n S)) (size_inverse L (log_of_n S))
          ∙ ap (λ t. scale ⊗ t) (sym (value_of_sums e))

    pub public_is : (c : (matrix row wire : ℕ) → F) (v q : List F) → length q ≡ n S
        → ((e : ℕ) → e < n S → coefficient O q e ≡ scale ⊗ value_at O (table (k S) (λ t. u_row O S c (coefficient O v) (t * stride S))) (step ^^ (e % k S)))
        → PublicOf O S c v q
    public_is c v q size written =
        let y : ℕ → F = λ t. u_row O S c (coefficient O v) (t * stride S) in
        record {
          p = p y;
          p_takes = interp_takes L (log_k S) point step (inverse (ones O (k S))) point_root step_inverse (size_inverse L (log_k S)) y;
          is = is_table 𝟘 q (n S) _ size (λ e h. written e h ∙ sym (scaled y (e % k S) (mod-lt e (pow_pos (log_k S)))));
        }

    -- the sums' values at the powers of the step, and then again and again
    pub public_repeated : (c : (matrix row wire : ℕ) → F) (v first rest : List F)
        → first ≡ table (k S) (λ e. scale ⊗ value_at O (table (k S) (λ t. u_row O S c (coefficient O v) (t * stride S))) (step ^^ e))
        → rest ≡ table (n S - k S) (λ e. coefficient O first (e % length first))
        → PublicOf O S c v (first ++ rest)
    public_repeated c v first rest first-is rest-is =
        public_is c v (first ++ rest) size (repeated (k S) (n S) _ first rest (pow_pos (log_k S)) first-is rest-is)
      where
        size : length (first ++ rest) ≡ n S
        size =
            length-append first rest
            ∙ ap₂ ◌+◌ (ap length first-is ∙ length_table (k S) _) (ap length rest-is ∙ length_table (n S - k S) _)
            ∙ (let within : k S ≤ n S = omega (arith, fits.all_rows) in omega arith)
