-- The rows of the square program hold just where the product rows do and the new wires are what their rows demand.
use Rattle.std.proofs.Common.{◌≡◌, ℕ, ◌+◌, ◌-◌, ◌*◌, ◌/◌, ◌%◌, ◌<◌, [], ◌∷◌, sym, refl, ap, ◌∙◌, subst, ap₂, arith}
use native.Mathlib.Decide.{ℕ_discrete, dec_lt}
use Rattle.field.specs.Operations.{Operations}
use Rattle.field.specs.Laws.{Laws}
use Rattle.field.proofs.Ring.{mul_zero}
use Rattle.field.proofs.Solve.{①, ◌⊞◌, ◌⊠◌, ◌⊟◌, ∸◌, ◌≈◌, ◌by◌, ◌⊢◌, by_ring, by_ring_from}
use Rattle.sheet.specs.Shape.{Shape, n, columns}
use Rattle.square.specs.Rows.{dot, row_sum, Holds, AllHold}
use Rattle.square.specs.Program.{Kind, public_plus, public_minus, row_minus, row_plus, empty, by_turns, p_wire, q_wire, s_wire, half, four, square, replaced, U, W, u_row, w_row, demanded, extended_at}
use Rattle.square.proofs.Branches.{if_yes, if_no, turn_even, turn_odd}
use Rattle.square.proofs.Dots.{dot_values, dot_zero, dot_add, dot_minus, dot_mul, dot_only, dot_one}
use Rattle.square.proofs.Fits.{Fits}
use Rattle.square.proofs.Places.{public_cases, product_cases, kind_cases, Row, row_public_plus, row_public_minus, row_row_minus, row_row_plus}
use Rattle.square.proofs.Replaced.{Paired, dot_replaced}

module _ {F : Type 0} {O : Operations F} (L : Laws O) (S : Shape) where
  open O use {one as 𝟙, add as ◌⊕◌, mul as ◌⊗◌, neg}

  infixl 60 ◌⊕◌
  infixl 70 ◌⊗◌
  abbrev sq : F → F
  sq = square O

  abbrev ½ : F
  ½ = half O

  two_halves : (𝟙 ⊕ 𝟙) ⊗ ½ ≡ 𝟙
  two_halves = L.mul_inverse (𝟙 ⊕ 𝟙) L.two

  -- ((x + y)/2)² - ((x - y)/2)² = x y
  halves : (x y : F) → sq (½ ⊗ (x ⊕ y)) ⊕ neg (sq (½ ⊗ (x ⊕ neg y))) ≡ x ⊗ y
  halves x y =
      by_ring_from L.ring 3
      (λ h x y. x ⊠ y ⊠ ((① ⊞ ①) ⊠ h ⊞ ①) by ((① ⊞ ①) ⊠ h ≈ ①) ∷ []
      ⊢ h ⊠ (x ⊞ y) ⊠ (h ⊠ (x ⊞ y)) ⊟ h ⊠ (x ⊟ y) ⊠ (h ⊠ (x ⊟ y)) ≈ x ⊠ y)
      refl ½ x y two_halves

  -- (x + y)² = 4 c + (x - y)² just where x y = c
  squares_of_product : (x y c : F) → x ⊗ y ≡ c → sq (x ⊕ y) ≡ four O ⊗ c ⊕ sq (x ⊕ neg y)
  squares_of_product =
      by_ring_from L.ring 3
      (λ x y c. (① ⊞ ①) ⊠ (① ⊞ ①) by (x ⊠ y ≈ c) ∷ [] ⊢ (x ⊞ y) ⊠ (x ⊞ y) ≈ (① ⊞ ①) ⊠ (① ⊞ ①) ⊠ c ⊞ (x ⊟ y) ⊠ (x ⊟ y)) refl

  product_of_squares : (x y c : F) → sq (x ⊕ y) ≡ four O ⊗ c ⊕ sq (x ⊕ neg y) → x ⊗ y ≡ c
  product_of_squares x y c e =
      by_ring_from L.ring 4
      (λ h x y c. h ⊠ h by ((x ⊞ y) ⊠ (x ⊞ y) ≈ (① ⊞ ①) ⊠ (① ⊞ ①) ⊠ c ⊞ (x ⊟ y) ⊠ (x ⊟ y))
      ∷ ∸ ((x ⊠ y ⊟ c) ⊠ ((① ⊞ ①) ⊠ h ⊞ ①)) by ((① ⊞ ①) ⊠ h ≈ ①) ∷ []
      ⊢ x ⊠ y ≈ c)
      refl ½ x y c e two_halves

module _ {F : Type 0} {O : Operations F} (L : Laws O) (S : Shape) (fits : Fits S) (c : (matrix row wire : ℕ) → F) where
  open O use {zero as 𝟘, one as 𝟙, add as ◌⊕◌, mul as ◌⊗◌, neg}
  open S use {m, l, N}

  infixl 60 ◌⊕◌
  infixl 70 ◌⊗◌
  abbrev M : ℕ
  M = columns S

  abbrev u_dot : Kind → (ℕ → F) → F
  u_dot K z = dot O M (U O S c K) z

  abbrev w_dot : Kind → (ℕ → F) → F
  w_dot K z = dot O M (W O S c K) z

  abbrev sum_of : (z : ℕ → F) (matrix row : ℕ) → F
  sum_of = row_sum O S c

  -- ── The two sums of each kind of row ──

  module _ (z : ℕ → F) where
    pub u_public_plus : (j : ℕ) → j < l → u_dot (public_plus j) z ≡ half O ⊗ (z j ⊕ z 0)
    unfolding U
    u_public_plus j h =
        dot_add L M _ _ z
        ∙ ap₂ ◌⊕◌ (dot_only L M j (half O) z (omega arith)) (dot_only L M 0 (half O) z (omega arith))
        ∙ sym (L.ring.mul_add (half O) (z j) (z 0))

    pub u_public_minus : (j : ℕ) → j < l → u_dot (public_minus j) z ≡ half O ⊗ (z j ⊕ neg (z 0))
    unfolding U
    u_public_minus j h =
        dot_minus L M _ _ z
        ∙ ap₂ (λ a b. a ⊕ neg b) (dot_only L M j (half O) z (omega arith)) (dot_only L M 0 (half O) z (omega arith))
        ∙ by_ring L.ring 3 (λ h x y. h ⊠ x ⊟ h ⊠ y ≈ h ⊠ (x ⊟ y)) refl (half O) (z j) (z 0)

    w_public_plus : (j : ℕ) → j < l → w_dot (public_plus j) z ≡ z (p_wire S j)
    unfolding W
    w_public_plus j h = dot_one L M (p_wire S j) z (omega arith)

    w_public_minus : (j : ℕ) → j < l → w_dot (public_minus j) z ≡ z (q_wire S j)
    unfolding W
    w_public_minus j h = dot_one L M (q_wire S j) z (omega arith)

    w_row_minus : (i : ℕ) → i < N → w_dot (row_minus i) z ≡ z (s_wire S i)
    unfolding W
    w_row_minus i h = dot_one L M (s_wire S i) z (omega arith)

    module _ (paired : Paired O S z) where
      kept : (d : ℕ → F) → dot O M (replaced O S d) z ≡ dot O m d z
      kept d = dot_replaced L S fits.public_wires d z paired

      pub u_row_minus : (i : ℕ) → u_dot (row_minus i) z ≡ sum_of z 0 i ⊕ neg (sum_of z 1 i)
      unfolding U
      u_row_minus i = kept _ ∙ dot_minus L m (c 0 i) (c 1 i) z

      pub u_row_plus : (i : ℕ) → u_dot (row_plus i) z ≡ sum_of z 0 i ⊕ sum_of z 1 i
      unfolding U
      u_row_plus i = kept _ ∙ dot_add L m (c 0 i) (c 1 i) z

      w_row_plus : (i : ℕ) → i < N → w_dot (row_plus i) z ≡ four O ⊗ sum_of z 2 i ⊕ z (s_wire S i)
      unfolding W
      w_row_plus i h = dot_add L M _ _ z ∙ ap₂ ◌⊕◌ (dot_mul L M (four O) _ z ∙ ap (λ t. four O ⊗ t) (kept (c 2 i))) (dot_one L M (s_wire S i) z (omega arith))

  -- ── The rows hold ──

  -- a row of this kind holds
  abbrev Sound : (ℕ → F) → Kind → Type 0
  Sound z K = square O (u_dot K z) ≡ w_dot K z

  abbrev pub SquaresHold : (ℕ → F) → Type 0
  SquaresHold z = (r : ℕ) → r < n S → square O (u_row O S c z r) ≡ w_row O S c z r

  -- the new wires are what their rows demand
  pub record Demands (z : ℕ → F) : Type 0 where
    pub p_is : (j : ℕ) → j < l → z (p_wire S j) ≡ square O (half O ⊗ (z j ⊕ z 0))
    pub q_is : (j : ℕ) → j < l → z (q_wire S j) ≡ square O (half O ⊗ (z j ⊕ neg (z 0)))
    pub s_is : (i : ℕ) → i < N → z (s_wire S i) ≡ square O (sum_of z 0 i ⊕ neg (sum_of z 1 i))

  pub paired_by : (z : ℕ → F) → z 0 ≡ 𝟙
      → ((j : ℕ) → j < l → z (p_wire S j) ≡ square O (half O ⊗ (z j ⊕ z 0)))
      → ((j : ℕ) → j < l → z (q_wire S j) ≡ square O (half O ⊗ (z j ⊕ neg (z 0))))
      → Paired O S z
  paired_by z one p q j h =
      ap₂ (λ a b. a ⊕ neg b) (p j h) (q j h) ∙ halves L S (z j) (z 0) ∙ ap (λ t. z j ⊗ t) one ∙ L.ring.mul_one (z j)

  pub squares_demand : (z : ℕ → F) → z 0 ≡ 𝟙 → SquaresHold z → Demands z × AllHold O S c z
  squares_demand z one sound = (record { p_is = p; q_is = q; s_is = s }, holds)
    where
      at : {K : Kind} → Row S fits K → Sound z K
      at (r, inside, is) = subst (Sound z) is (sound r inside)

      p : (j : ℕ) → j < l → z (p_wire S j) ≡ square O (half O ⊗ (z j ⊕ z 0))
      p j h = sym (w_public_plus z j h) ∙ sym (at (row_public_plus S fits j h)) ∙ ap (square O) (u_public_plus z j h)

      q : (j : ℕ) → j < l → z (q_wire S j) ≡ square O (half O ⊗ (z j ⊕ neg (z 0)))
      q j h = sym (w_public_minus z j h) ∙ sym (at (row_public_minus S fits j h)) ∙ ap (square O) (u_public_minus z j h)

      paired : Paired O S z
      paired = paired_by z one p q

      s : (i : ℕ) → i < N → z (s_wire S i) ≡ square O (sum_of z 0 i ⊕ neg (sum_of z 1 i))
      s i h = sym (w_row_minus z i h) ∙ sym (at (row_row_minus S fits i h)) ∙ ap (square O) (u_row_minus z paired i)

      holds : (i : ℕ) → i < N → Holds O S c z i
      holds i h =
          product_of_squares L S (sum_of z 0 i) (sum_of z 1 i) (sum_of z 2 i)
          (sym (ap (square O) (u_row_plus z paired i))
          ∙ at (row_row_plus S fits i h)
          ∙ w_row_plus z paired i h
          ∙ ap (λ t. four O ⊗ sum_of z 2 i ⊕ t) (s i h))

  pub demands_square : (z : ℕ → F) → z 0 ≡ 𝟙 → Demands z → AllHold O S c z → SquaresHold z
  demands_square z one made holds r _ =
      kind_cases S (Sound z)
      (public_cases S (Sound z)
      (λ j h. ap (square O) (u_public_plus z j h) ∙ sym (made.p_is j h) ∙ sym (w_public_plus z j h))
      (λ j h. ap (square O) (u_public_minus z j h) ∙ sym (made.q_is j h) ∙ sym (w_public_minus z j h))
      nothing)
      (product_cases S (Sound z)
      (λ i h. ap (square O) (u_row_minus z paired i) ∙ sym (made.s_is i h) ∙ sym (w_row_minus z i h))
      (λ i h.
      ap (square O) (u_row_plus z paired i)
      ∙ squares_of_product L S (sum_of z 0 i) (sum_of z 1 i) (sum_of z 2 i) (holds i h)
      ∙ ap (λ t. four O ⊗ sum_of z 2 i ⊕ t) (sym (made.s_is i h))
      ∙ sym (w_row_plus z paired i h))
      nothing)
      r
    where
      paired : Paired O S z
      paired = paired_by z one made.p_is made.q_is

      nothing : Sound z empty
      nothing = unfold U W in (ap (square O) (dot_zero L M z) ∙ mul_zero L.ring 𝟘 ∙ sym (dot_zero L M z))

  -- ── The extended values, wire by wire ──

  module _ (v : ℕ → F) where
    abbrev P : ℕ → F
    P j = square O (half O ⊗ (v j ⊕ v 0))

    abbrev Q : ℕ → F
    Q j = square O (half O ⊗ (v j ⊕ neg (v 0)))

    abbrev D : ℕ → F
    D i = square O (sum_of v 0 i ⊕ neg (sum_of v 1 i))

    pub extended_old : (w : ℕ) → w < m → extended_at O S c v w ≡ v w
    unfolding extended_at
    extended_old w h = if_yes (dec_lt w m) (v w) (demanded O S c v (w - m)) h

    extended_new : (t : ℕ) → extended_at O S c v (m + t) ≡ demanded O S c v t
    unfolding extended_at
    extended_new t =
        let back : m + t - m ≡ t = omega arith in
        if_no (dec_lt (m + t) m) (v (m + t)) (demanded O S c v (m + t - m)) (omega arith) ∙ ap (demanded O S c v) back

    pub extended_p : (j : ℕ) → j < l → extended_at O S c v (p_wire S j) ≡ P j
    unfolding demanded
    extended_p j h = extended_new (2 * j) ∙ if_yes (dec_lt (2 * j) (2 * l)) (by_turns P Q (2 * j)) (D (2 * j - 2 * l)) (omega arith) ∙ turn_even P Q j

    pub extended_q : (j : ℕ) → j < l → extended_at O S c v (q_wire S j) ≡ Q j
    unfolding demanded
    extended_q j h =
        let place : m + 2 * j + 1 ≡ m + (2 * j + 1) = omega arith in
        ap (extended_at O S c v) place
        ∙ extended_new (2 * j + 1)
        ∙ if_yes (dec_lt (2 * j + 1) (2 * l)) (by_turns P Q (2 * j + 1)) (D (2 * j + 1 - 2 * l)) (omega arith)
        ∙ turn_odd P Q j

    pub extended_s : (i : ℕ) → extended_at O S c v (s_wire S i) ≡ D i
    unfolding demanded
    extended_s i =
        let place : m + 2 * l + i ≡ m + (2 * l + i) = omega arith in
        let back : 2 * l + i - 2 * l ≡ i = omega arith in
        ap (extended_at O S c v) place
        ∙ extended_new (2 * l + i)
        ∙ if_no (dec_lt (2 * l + i) (2 * l)) (by_turns P Q (2 * l + i)) (D (2 * l + i - 2 * l)) (omega arith)
        ∙ ap D back

    -- z has the values v on the sheet's wires
    abbrev Agrees : (ℕ → F) → Type 0
    Agrees z = (w : ℕ) → w < m → z w ≡ v w

    pub same_sum : (z : ℕ → F) → Agrees z → (matrix row : ℕ) → sum_of z matrix row ≡ sum_of v matrix row
    same_sum z agrees matrix row = dot_values L m (c matrix row) z v agrees

    pub holds_of : (z : ℕ → F) → Agrees z → AllHold O S c z → AllHold O S c v
    holds_of z agrees holds i h = sym (ap₂ ◌⊗◌ (same_sum z agrees 0 i) (same_sum z agrees 1 i)) ∙ holds i h ∙ same_sum z agrees 2 i

    pub holds_at : (z : ℕ → F) → Agrees z → AllHold O S c v → AllHold O S c z
    holds_at z agrees holds i h = ap₂ ◌⊗◌ (same_sum z agrees 0 i) (same_sum z agrees 1 i) ∙ holds i h ∙ sym (same_sum z agrees 2 i)

    pub extended_demands : Demands (extended_at O S c v)
    extended_demands =
        let z : ℕ → F = extended_at O S c v in
        record {
          p_is = λ j h. extended_p j h ∙ sym (ap₂ (λ a b. square O (half O ⊗ (a ⊕ b))) (extended_old j (omega arith)) (extended_old 0 (omega arith)));
          q_is = λ j h. extended_q j h ∙ sym (ap₂ (λ a b. square O (half O ⊗ (a ⊕ neg b))) (extended_old j (omega arith)) (extended_old 0 (omega arith)));
          s_is = λ i h. extended_s i ∙ sym (ap₂ (λ a b. square O (a ⊕ neg b)) (same_sum z extended_old 0 i) (same_sum z extended_old 1 i));
        }

    -- and nothing else is demanded
    pub demands_extended : (z : ℕ → F) → Agrees z → Demands z → (w : ℕ) → w < M → z w ≡ extended_at O S c v w
    demands_extended z agrees made w h =
        elim (dec_lt w m) [
          | yes k ↦ agrees w k ∙ sym (extended_old w k)
          | no k ↦ elim (dec_lt w (m + 2 * l)) [
            | yes k' ↦ elim (ℕ_discrete ((w - m) % 2) 0) [
              | yes e ↦ p_place ((w - m) / 2) (omega arith) (omega arith)
              | no e ↦ q_place ((w - m) / 2) (omega arith) (omega arith)
            ]
            | no k' ↦ s_place (w - (m + 2 * l)) (omega arith)
          ]
        ]
      where
        p_place : (j : ℕ) → j < l → w ≡ p_wire S j → z w ≡ extended_at O S c v w
        p_place j k place =
            rw place (made.p_is j k ∙ ap₂ (λ a b. square O (half O ⊗ (a ⊕ b))) (agrees j (omega arith)) (agrees 0 (omega arith)) ∙ sym (extended_p j k))

        q_place : (j : ℕ) → j < l → w ≡ q_wire S j → z w ≡ extended_at O S c v w
        q_place j k place =
            rw place (made.q_is j k ∙ ap₂ (λ a b. square O (half O ⊗ (a ⊕ neg b))) (agrees j (omega arith)) (agrees 0 (omega arith)) ∙ sym (extended_q j k))

        s_place : (i : ℕ) → w ≡ s_wire S i → z w ≡ extended_at O S c v w
        s_place i place =
            rw place (made.s_is i (omega arith) ∙ ap₂ (λ a b. square O (a ⊕ neg b)) (same_sum z agrees 0 i) (same_sum z agrees 1 i) ∙ sym (extended_s i))
