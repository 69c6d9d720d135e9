-- The public wires' columns, each times its value: k/n times the polynomial of the public rows, repeated.
use Rattle.std.proofs.Common.{◌≡◌, ℕ, ◌+◌, ◌*◌, ◌%◌, ◌^◌, ◌<◌, ◌≤◌, ◌≢◌, List, length, sym, refl, ap, ◌∙◌, subst, ap₂, arith}
use Rattle.field.specs.Operations.{Operations, sum, power, ones}
use Rattle.field.specs.Laws.{Laws}
use Rattle.field.proofs.Ring.{zero_mul, mul_zero}
use Rattle.transform.specs.Polynomial.{table, coefficient, value_at, Root, Takes}
use Rattle.transform.proofs.Sums.{sum_ext, sum_none, sum_mul, sum_mul_right, sum_swap, sum_short}
use Rattle.transform.proofs.Tables.{length_table, get_or_table}
use Rattle.transform.proofs.Series.{eval}
use Rattle.transform.proofs.Polynomials.{value_is_eval, takes_ext, takes_spread}
use Rattle.sheet.specs.Shape.{Shape, log_k, k, log_of_n, n, stride, columns}
use Rattle.square.specs.Rows.{only, dot}
use Rattle.square.specs.Program.{Kind, public_plus, public_minus, empty, public_kind, product_kind, others, kind, half, U, u_row}
use Rattle.square.specs.Polynomials.{ω, Column}
use Rattle.square.proofs.Dots.{only_other, dot_coefficients}
use Rattle.square.proofs.Fits.{Fits, log_stride, log_whole, stride_is}
use Rattle.square.proofs.Places.{public_cases, product_cases, kind_multiple, kind_other}
use Rattle.square.proofs.Replaced.{replaced_public}

module _ {F : Type 0} {O : Operations F} (L : Laws O) where
  open O use {zero as 𝟘, add as ◌⊕◌, mul as ◌⊗◌, neg, inverse}

  infixl 60 ◌⊕◌
  infixl 70 ◌⊗◌
  abbrev Σ : ℕ → (ℕ → F) → F
  Σ = sum O

  -- ── A sum of polynomials, each times a factor, takes the sum of their values ──

  module _ (size l : ℕ) (a : ℕ → F) (c : ℕ → List F) where
    weighted : ℕ → F
    weighted e = Σ l (λ j. a j ⊗ coefficient O (c j) e)

    value_weighted : (x : F) → ((j : ℕ) → j < l → length (c j) ≡ size) → value_at O (table size weighted) x ≡ Σ l (λ j. a j ⊗ value_at O (c j) x)
    unfolding eval weighted
    value_weighted x sizes =
        value_is_eval L size (table size weighted) x (length_table size weighted)
        ∙ sum_ext L size _ _ (λ e h. ap (λ t. t ⊗ power O x e) (get_or_table size weighted 𝟘 e h) ∙ term e)
        ∙ sum_swap L size l _
        ∙ sum_ext L l _ _ (λ j h. sum_mul L size (a j) _ ∙ ap (λ t. a j ⊗ t) (sym (value_is_eval L size (c j) x (sizes j h))))
      where
        term : (e : ℕ) → weighted e ⊗ power O x e ≡ Σ l (λ j. a j ⊗ (coefficient O (c j) e ⊗ power O x e))
        term e = sym (sum_mul_right L l (power O x e) _) ∙ sum_ext L l _ _ (λ j _. L.ring.mul_assoc (a j) (coefficient O (c j) e) (power O x e))

    takes_weighted : (x : F) (y : ℕ → ℕ → F) → ((j : ℕ) → j < l → Takes O size x (y j) (c j))
        → Takes O size x (λ r. Σ l (λ j. a j ⊗ y j r)) (table size weighted)
    takes_weighted x y takes =
        record {
          size = length_table size weighted;
          values = λ r h. value_weighted (power O x r) (λ j k. (takes j k).size) ∙ sum_ext L l _ _ (λ j k. ap (λ t. a j ⊗ t) ((takes j k).values r h));
        }

  module _ (S : Shape) (fits : Fits S) where
    open S use {l}

    -- ── The public rows ──

    -- no coefficient of the sheet counts in them
    pub public_rows_same : (c d : (matrix row wire : ℕ) → F) (z : ℕ → F) (t : ℕ) → u_row O S c z (t * stride S) ≡ u_row O S d z (t * stride S)
    public_rows_same c d z t =
        rw (kind_multiple S fits t) (dot_coefficients L (columns S) _ _ z (λ w _. same w))
      where
        same : (w : ℕ) → U O S c (public_kind S t) w ≡ U O S d (public_kind S t) w
        same w = unfold U in public_cases S (λ K. U O S c K w ≡ U O S d K w) (λ j h. refl) (λ j h. refl) refl t

    module _ (c : (matrix row wire : ℕ) → F) (z : ℕ → F) where
      public_sum : Kind → F
      public_sum K = Σ l (λ j. z j ⊗ U O S c K j)

      -- in the product rows the public wires have no coefficient
      none_in_products : (x : ℕ) → public_sum (product_kind S x) ≡ 𝟘
      unfolding public_sum
      none_in_products x = sum_none L l _ (λ j h. ap (λ t. z j ⊗ t) (gone j h) ∙ mul_zero L.ring (z j))
        where
          gone : (j : ℕ) → j < l → U O S c (product_kind S x) j ≡ 𝟘
          gone j h =
              unfold U in
              product_cases S (λ K. U O S c K j ≡ 𝟘)
              (λ i _. replaced_public L S fits.public_wires _ j h)
              (λ i _. replaced_public L S fits.public_wires _ j h)
              refl x

      -- in the public rows no other wire has one
      all_in_public : (t : ℕ) → public_sum (public_kind S t) ≡ dot O (columns S) (U O S c (public_kind S t)) z
      all_in_public =
          public_cases S (λ K. public_sum K ≡ dot O (columns S) (U O S c K) z)
          (λ j h. short (public_plus j) (λ w k. unfold U in (ap₂ ◌⊕◌ (apart j w h k) (apart 0 w (omega arith) k) ∙ L.ring.add_zero 𝟘)))
          (λ j h. short (public_minus j) (λ w k. unfold U in (ap₂ (λ a b. a ⊕ neg b) (apart j w h k) (apart 0 w (omega arith) k) ∙ L.ring.add_neg 𝟘)))
          (short empty (λ w k. unfold U in refl))
        where
          apart : (j w : ℕ) → j < l → l ≤ w → only O j w (half O) ≡ 𝟘
          apart j w h k = only_other L j w (half O) (omega arith)

          short : (K : Kind) → ((w : ℕ) → l ≤ w → U O S c K w ≡ 𝟘) → public_sum K ≡ dot O (columns S) (U O S c K) z
          short K h = unfold dot public_sum in (
              sum_ext L l _ _ (λ j _. L.ring.mul_comm (z j) (U O S c K j))
              ∙ sym (sum_short L l (columns S) _ (omega arith) (λ w k _. ap (λ t. t ⊗ z w) (h w k) ∙ zero_mul L.ring (z w))))

      -- ── The sum of the columns ──

      pub public_coefficients : Root O (log_of_n S) (ω O S) → (column : ℕ → List F) (p : List F)
          → ((j : ℕ) → j < l → Column O S c j (column j))
          → Takes O (k S) (power O (ω O S) (stride S)) (λ t. u_row O S c z (t * stride S)) p
          → (e : ℕ) → e < n S → Σ l (λ j. z j ⊗ coefficient O (column j) e) ≡ ones O (k S) ⊗ inverse (ones O (n S)) ⊗ coefficient O p (e % k S)
      unfolding weighted
      public_coefficients root column p takes takes_p e h =
          sym (get_or_table (n S) sums 𝟘 e h)
          ∙ takes_spread L (log_stride S fits) (log_k S) (ω O S) (subst (λ t. Root O t (ω O S)) whole root) values (table (n S) sums) p zeros
          (subst (λ t. Takes O (2 ^ t) (ω O S) values (table (n S) sums)) whole all)
          (subst (λ s. Takes O (k S) (power O (ω O S) s) (λ t. values (t * s)) p) (stride_is S fits) multiples)
          e (subst (λ t. e < 2 ^ t) whole h)
          ∙ ap (λ t. ones O (k S) ⊗ inverse (ones O (2 ^ t)) ⊗ coefficient O p (e % k S)) (sym whole)
        where
          whole : log_of_n S ≡ log_k S + log_stride S fits
          whole = sym (log_whole S fits)

          values : ℕ → F
          values r = public_sum (kind S r)

          sums : ℕ → F
          sums = weighted (n S) l z column

          all : Takes O (n S) (ω O S) values (table (n S) sums)
          all = unfold public_sum in takes_weighted (n S) l z column (ω O S) (λ j r. U O S c (kind S r) j) takes

          multiples : Takes O (k S) (power O (ω O S) (stride S)) (λ t. values (t * stride S)) p
          multiples =
              takes_ext L (k S) (power O (ω O S) (stride S)) _ _ p
              (λ t _. sym (ap public_sum (kind_multiple S fits t) ∙ all_in_public t ∙ ap (λ K. dot O (columns S) (U O S c K) z) (sym (kind_multiple S fits t))))
              takes_p

          zeros : (r : ℕ) → r < k S * 2 ^ log_stride S fits → r % 2 ^ log_stride S fits ≢ 0 → values r ≡ 𝟘
          zeros r _ d = ap public_sum (kind_other S fits r (λ q. d (ap (λ t. r % t) (sym (stride_is S fits)) ∙ q))) ∙ none_in_products (others S r)
