-- Which row of the square program says what.
use Rattle.std.proofs.Common.{◌≡◌, ℕ, zero, suc, ◌+◌, ◌-◌, ◌*◌, ◌/◌, ◌%◌, ◌<◌, ◌≤◌, ◌≢◌, sym, ap, ◌∙◌, add-zero, mul-le-mul_right, mod-lt, mod-eq_of_lt, suc-mul, div-lt_iff_lt-mul, div-add-mod', zero-mul, mul-div_cancel, arith}
use native.Mathlib.Nat.{div-eq_of_lt, mul-add-mod_self_right, mul-add-div_right, mul-mod_left}
use native.Mathlib.Decide.{ℕ_discrete, dec_lt}
use Rattle.sheet.specs.Shape.{Shape, k, n, stride}
use Rattle.square.specs.Program.{Kind, public_plus, public_minus, row_minus, row_plus, empty, by_turns, others, public_kind, product_kind, kind}
use Rattle.square.proofs.Branches.{if_yes, if_no, if_cases, turn_even, turn_odd, turn_cases}
use Rattle.square.proofs.Fits.{Fits, stride_pos, stride_whole}

-- ── What holds of every kind of row holds of every row ──

module _ (S : Shape) (G : Kind → Type 0) where
  open S use {l, N}

  pub public_cases : ((j : ℕ) → j < l → G (public_plus j)) → ((j : ℕ) → j < l → G (public_minus j)) → G empty → (t : ℕ) → G (public_kind S t)
  unfolding public_kind
  public_cases f g e t = if_cases G (dec_lt t (2 * l)) (by_turns public_plus public_minus t) empty (λ h. turn_cases public_plus public_minus G l t h f g) (λ _. e)

  pub product_cases : ((i : ℕ) → i < N → G (row_minus i)) → ((i : ℕ) → i < N → G (row_plus i)) → G empty → (x : ℕ) → G (product_kind S x)
  unfolding product_kind
  product_cases f g e x = if_cases G (dec_lt x (2 * N)) (by_turns row_minus row_plus x) empty (λ h. turn_cases row_minus row_plus G N x h f g) (λ _. e)

  pub kind_cases : ((t : ℕ) → G (public_kind S t)) → ((x : ℕ) → G (product_kind S x)) → (r : ℕ) → G (kind S r)
  unfolding kind
  kind_cases f g r =
      if_cases G (ℕ_discrete (r % stride S) 0) (public_kind S (r / stride S)) (product_kind S (others S r)) (λ _. f (r / stride S)) (λ _. g (others S r))

module _ (S : Shape) (fits : Fits S) where
  open S use {l, N}

  pos : 0 < stride S
  pos = stride_pos S fits

  -- ── The multiples of the stride, and the other rows ──

  pub kind_multiple : (t : ℕ) → kind S (t * stride S) ≡ public_kind S t
  unfolding kind
  kind_multiple t =
      if_yes (ℕ_discrete (t * stride S % stride S) 0) (public_kind S (t * stride S / stride S)) (product_kind S (others S (t * stride S))) (mul-mod_left t (stride S))
      ∙ ap (public_kind S) (mul-div_cancel t pos)

  pub kind_other : (r : ℕ) → r % stride S ≢ 0 → kind S r ≡ product_kind S (others S r)
  unfolding kind
  kind_other r h = if_no (ℕ_discrete (r % stride S) 0) (public_kind S (r / stride S)) (product_kind S (others S r)) h

  public_even : (j : ℕ) → j < l → public_kind S (2 * j) ≡ public_plus j
  unfolding public_kind
  public_even j h = if_yes (dec_lt (2 * j) (2 * l)) (by_turns public_plus public_minus (2 * j)) empty (omega arith) ∙ turn_even public_plus public_minus j

  public_odd : (j : ℕ) → j < l → public_kind S (2 * j + 1) ≡ public_minus j
  unfolding public_kind
  public_odd j h = if_yes (dec_lt (2 * j + 1) (2 * l)) (by_turns public_plus public_minus (2 * j + 1)) empty (omega arith) ∙ turn_odd public_plus public_minus j

  product_even : (i : ℕ) → i < N → product_kind S (2 * i) ≡ row_minus i
  unfolding product_kind
  product_even i h = if_yes (dec_lt (2 * i) (2 * N)) (by_turns row_minus row_plus (2 * i)) empty (omega arith) ∙ turn_even row_minus row_plus i

  product_odd : (i : ℕ) → i < N → product_kind S (2 * i + 1) ≡ row_plus i
  unfolding product_kind
  product_odd i h = if_yes (dec_lt (2 * i + 1) (2 * N)) (by_turns row_minus row_plus (2 * i + 1)) empty (omega arith) ∙ turn_odd row_minus row_plus i

  -- ── The count of the other rows ──

  pub others_more : (r : ℕ) → r % stride S ≢ 0 → others S (suc r) ≡ suc (others S r)
  unfolding others
  others_more r h = if_no (ℕ_discrete (r % stride S) 0) (others S r) (suc (others S r)) h

  pub others_kept : (r : ℕ) → r % stride S ≡ 0 → others S (suc r) ≡ others S r
  unfolding others
  others_kept r h = if_yes (ℕ_discrete (r % stride S) 0) (others S r) (suc (others S r)) h

  -- after a multiple of the stride
  others_after : (t y : ℕ) → y < stride S → others S (t * stride S + suc y) ≡ others S (t * stride S) + y
  others_after t zero h =
      let next : t * stride S + 1 ≡ suc (t * stride S) = omega arith in
      ap (others S) next ∙ others_kept (t * stride S) (mul-mod_left t (stride S)) ∙ sym (add-zero (others S (t * stride S)))
  others_after t (suc y) h =
      let before : others S (t * stride S + suc y) ≡ others S (t * stride S) + y = others_after t y (omega arith) in
      let rest : (t * stride S + suc y) % stride S ≡ suc y = mul-add-mod_self_right t (stride S) (suc y) ∙ mod-eq_of_lt (omega arith) in
      let more : others S (suc (t * stride S + suc y)) ≡ suc (others S (t * stride S + suc y)) = others_more (t * stride S + suc y) (λ z. omega arith) in
      let next : t * stride S + suc (suc y) ≡ suc (t * stride S + suc y) = omega arith in
      ap (others S) next ∙ more ∙ omega arith

  others_multiple : (t : ℕ) → others S (t * stride S) + t ≡ t * stride S
  others_multiple zero = unfold others in simp zero-mul
  others_multiple (suc t) =
      let before : others S (t * stride S) + t ≡ t * stride S = others_multiple t in
      let last : others S (t * stride S + suc (stride S - 1)) ≡ others S (t * stride S) + (stride S - 1) = others_after t (stride S - 1) (omega (arith, pos)) in
      let next : suc t * stride S ≡ t * stride S + suc (stride S - 1) = simp suc-mul (omega (arith, pos)) in
      let is : others S (suc t * stride S) ≡ others S (t * stride S) + (stride S - 1) = ap (others S) next ∙ last in
      omega (arith, pos)

  -- before a row that is no multiple stand r / stride + 1 multiples
  pub others_is : (r : ℕ) → r % stride S ≢ 0 → others S r ≡ r - (r / stride S + 1)
  others_is r h =
      let t : ℕ = r / stride S in
      let y : ℕ = r % stride S - 1 in
      let small : r % stride S < stride S = mod-lt r pos in
      let whole : t * stride S + r % stride S ≡ r = div-add-mod' r (stride S) in
      let place : r ≡ t * stride S + suc y = omega arith in
      let here : others S (t * stride S + suc y) ≡ others S (t * stride S) + y = others_after t y (omega arith) in
      let before : others S (t * stride S) + t ≡ t * stride S = others_multiple t in
      let is : others S r ≡ others S (t * stride S) + y = ap (others S) place ∙ here in
      omega arith

  -- ── A row of each kind ──

  abbrev pub Row : Kind → Type 0
  Row K = (r : ℕ) × (r < n S) × (kind S r ≡ K)

  multiple_row : (t : ℕ) → t < 2 * l → Row (public_kind S t)
  multiple_row t h = (t * stride S, inside, kind_multiple t)
    where
      inside : t * stride S < n S
      inside =
          let below : suc t ≤ k S = omega arith in
          omega (arith, pos, stride_whole S fits, mul-le-mul_right (stride S) below)

  -- number x of the rows below c (d + 1) that are no multiple of d + 1
  other_row : (c d x : ℕ) → x < c * d → (r : ℕ) × (r < c * suc d) × (r % suc d ≢ 0) × (r - (r / suc d + 1) ≡ x)
  other_row c zero x h = absurd (none h)
    where
      none : x < c * 0 → ⊥
      none h = omega arith
  other_row c (suc b) x h =
      let d : ℕ = suc b in
      let q : ℕ = x / d in
      let y : ℕ = x % d in
      let small : y < d = mod-lt x (omega arith) in
      let first : q < c = (div-lt_iff_lt-mul {k = d} {x = x} {y = c} (omega arith)).1 h in
      let rest : (q * suc d + suc y) % suc d ≡ suc y = mul-add-mod_self_right q (suc d) (suc y) ∙ mod-eq_of_lt (omega arith) in
      let none : suc y / suc d ≡ 0 = div-eq_of_lt (omega arith) in
      let whole : (q * suc d + suc y) / suc d ≡ q = mul-add-div_right (omega arith) q (suc y) ∙ ap (λ t. q + t) none ∙ omega arith in
      let back : q * d + y ≡ x = div-add-mod' x d in
      (q * suc d + suc y, omega (arith, mul-le-mul_right (suc d) first), (λ z. omega arith), ap (λ t. q * suc d + suc y - (t + 1)) whole ∙ omega arith)

  product_row : (x : ℕ) → x < 2 * N → Row (product_kind S x)
  product_row x h =
      let d : ℕ = stride S - 1 in
      let whole : suc d ≡ stride S = omega (arith, pos) in
      let rows : k S * suc d ≡ n S = ap (λ t. k S * t) whole ∙ stride_whole S fits in
      found d whole rows (other_row (k S) d x (omega arith))
    where
      found : (d : ℕ) → suc d ≡ stride S → k S * suc d ≡ n S
          → (r : ℕ) × (r < k S * suc d) × (r % suc d ≢ 0) × (r - (r / suc d + 1) ≡ x) → Row (product_kind S x)
      found d whole rows (r, inside, apart, number) = (
        r,
        omega arith,
        kind_other r elsewhere ∙ ap (product_kind S) (others_is r elsewhere ∙ ap (λ t. r - (r / t + 1)) (sym whole) ∙ number),
      )
        where
          elsewhere : r % stride S ≢ 0
          elsewhere z = apart (ap (λ t. r % t) whole ∙ z)

  pub row_public_plus : (j : ℕ) → j < l → Row (public_plus j)
  row_public_plus j h = rw (public_even j h) at (multiple_row (2 * j) (omega arith))

  pub row_public_minus : (j : ℕ) → j < l → Row (public_minus j)
  row_public_minus j h = rw (public_odd j h) at (multiple_row (2 * j + 1) (omega arith))

  pub row_row_minus : (i : ℕ) → i < N → Row (row_minus i)
  row_row_minus i h = rw (product_even i h) at (product_row (2 * i) (omega arith))

  pub row_row_plus : (i : ℕ) → i < N → Row (row_plus i)
  row_row_plus i h = rw (product_odd i h) at (product_row (2 * i + 1) (omega arith))
