-- The extension keeps the laws, from the laws of the field below; its multiples of one and its roots of one.
use Rattle.std.specs.Prelude.{◌≡◌, ℕ, suc, ◌+◌, ◌-◌, ◌^◌, ◌≤◌}
use Rattle.std.proofs.Math.Path.{refl, sym, ap}
use Rattle.std.proofs.Common.{◌∙◌}
use native.Mathlib.Omega.{arith}
use Rattle.field.specs.Operations.{Operations, sum, power, ones, root_of_order}
use Rattle.field.specs.Laws.{Ring, Laws}
use Rattle.field.proofs.Ring as R
use Rattle.field.proofs.Solve.{Expr, ⓪, ①, ◌⊞◌, ◌⊠◌, ◌⊟◌, ∸◌, ◌≈◌, by_ring}
use Rattle.field.proofs.Powers.{power_one, power_twice, twice_power}
use Rattle.quadratic.specs.declared.quadratic.Quadratic.{Quadratic}
use Rattle.quadratic.specs.Doubled.{pair, both, norm, doubled}
use Rattle.quadratic.specs.Norm as N

-- the same operations on expressions, for the solver
abbrev plus : Quadratic Expr → Quadratic Expr → Quadratic Expr
plus x y = pair (x.a ⊞ y.a) (x.b ⊞ y.b)

abbrev times : Expr → Quadratic Expr → Quadratic Expr → Quadratic Expr
times t x y = pair (x.a ⊠ y.a ⊞ t ⊠ (x.b ⊠ y.b)) (x.a ⊠ y.b ⊞ x.b ⊠ y.a)

module _ {F : Type 0} {O : Operations F} (ring : Ring O) where
  open O use {zero, one, add, mul, neg, top}

  pub doubled_ring : Ring (doubled O)
  doubled_ring = record {
    add_assoc = λ x y z. both (ring.add_assoc x.a y.a z.a) (ring.add_assoc x.b y.b z.b);
    add_comm = λ x y. both (ring.add_comm x.a y.a) (ring.add_comm x.b y.b);
    add_zero = λ x. both (ring.add_zero x.a) (ring.add_zero x.b);
    add_neg = λ x. both (ring.add_neg x.a) (ring.add_neg x.b);
    mul_assoc = λ x y z.
        both
        (by_ring ring 7 (λ t a b c d e f. (times t (times t (pair a b) (pair c d)) (pair e f)).a ≈ (times t (pair a b) (times t (pair c d) (pair e f))).a) refl top x.a x.b y.a y.b z.a z.b)
        (by_ring ring 7 (λ t a b c d e f. (times t (times t (pair a b) (pair c d)) (pair e f)).b ≈ (times t (pair a b) (times t (pair c d) (pair e f))).b) refl top x.a x.b y.a y.b z.a z.b);
    mul_comm = λ x y.
        both
        (by_ring ring 5 (λ t a b c d. (times t (pair a b) (pair c d)).a ≈ (times t (pair c d) (pair a b)).a) refl top x.a x.b y.a y.b)
        (by_ring ring 4 (λ a b c d. a ⊠ d ⊞ b ⊠ c ≈ c ⊠ b ⊞ d ⊠ a) refl x.a x.b y.a y.b);
    mul_one = λ x.
        both
        (by_ring ring 3 (λ t a b. (times t (pair a b) (pair ① ⓪)).a ≈ a) refl top x.a x.b)
        (by_ring ring 2 (λ a b. a ⊠ ⓪ ⊞ b ⊠ ① ≈ b) refl x.a x.b);
    mul_add = λ x y z.
        both
        (by_ring ring 7 (λ t a b c d e f. (times t (pair a b) (plus (pair c d) (pair e f))).a ≈ (plus (times t (pair a b) (pair c d)) (times t (pair a b) (pair e f))).a) refl top x.a x.b y.a y.b z.a z.b)
        (by_ring ring 7 (λ t a b c d e f. (times t (pair a b) (plus (pair c d) (pair e f))).b ≈ (plus (times t (pair a b) (pair c d)) (times t (pair a b) (pair e f))).b) refl top x.a x.b y.a y.b z.a z.b);
  }

  -- multiples of one are those of the field below
  pub ones_below : (n : ℕ) → ones (doubled O) n ≡ pair (ones O n) zero
  unfolding ones sum
  ones_below ℕ.zero = refl
  ones_below (suc n) = ap (λ x. (doubled O).add x (pair one zero)) (ones_below n) ∙ both refl (ring.add_zero zero)

  -- powers of an element of the field below are its powers there
  power_below : (x : F) (n : ℕ) → power (doubled O) (pair x zero) n ≡ pair (power O x n) zero
  unfolding power
  power_below x ℕ.zero = refl
  power_below x (suc n) =
      ap ((doubled O).mul (pair x zero)) (power_below x n)
      ∙ both
      (by_ring ring 3 (λ t x p. (times t (pair x ⓪) (pair p ⓪)).a ≈ x ⊠ p) refl top x (power O x n))
      (by_ring ring 2 (λ x p. x ⊠ ⓪ ⊞ ⓪ ⊠ p ≈ ⓪) refl x (power O x n))

  θ_square : (doubled O).mul (pair zero one) (pair zero one) ≡ pair top zero
  θ_square =
      both
      (by_ring ring 1 (λ t. (times t (pair ⓪ ①) (pair ⓪ ①)).a ≈ t) refl top)
      (by_ring ring 0 (⓪ ⊠ ① ⊞ ① ⊠ ⓪ ≈ ⓪) refl)

  -- even powers of θ are powers of the top of the field below
  θ_power : (k : ℕ) → 1 ≤ k → power (doubled O) (pair zero one) (2 ^ k) ≡ pair (power O top (2 ^ (k - 1))) zero
  θ_power k h =
      ap (power (doubled O) (pair zero one)) (twice_power k h)
      ∙ power_twice doubled_ring (pair zero one) (2 ^ (k - 1))
      ∙ ap (λ w. power (doubled O) w (2 ^ (k - 1))) θ_square
      ∙ power_below top (2 ^ (k - 1))

  -- (a + bθ)(a - bθ) i, with i the inverse of the norm
  inverse_by_norm : (x : Quadratic F) (i : F) → mul (norm O x) i ≡ one → (doubled O).mul x (pair (mul x.a i) (neg (mul x.b i))) ≡ pair one zero
  inverse_by_norm x i e =
      both
      (by_ring ring 4 (λ t a b i. (times t (pair a b) (pair (a ⊠ i) (∸ (b ⊠ i)))).a ≈ (a ⊠ a ⊟ t ⊠ (b ⊠ b)) ⊠ i) refl top x.a x.b i ∙ e)
      (by_ring ring 3 (λ a b i. a ⊠ ∸ (b ⊠ i) ⊞ b ⊠ (a ⊠ i) ≈ ⓪) refl x.a x.b i)

module _ {F : Type 0} {O : Operations F} (L : Laws O) where
  open O use {zero, one, add, mul, neg, top, adicity}

  pub norm_zero : (x : Quadratic F) → norm O x ≡ zero → x ≡ pair zero zero
  norm_zero x e = let z = N.norm_zero L x.a x.b e in both z.0 z.1

  pub norm_of_zero : (x : Quadratic F) → x ≡ pair zero zero → norm O x ≡ zero
  norm_of_zero x e = ap (norm O) e ∙ by_ring L.ring 1 (λ t. ⓪ ⊠ ⓪ ⊟ t ⊠ (⓪ ⊠ ⓪) ≈ ⓪) refl top

  top_power : power (doubled O) (pair zero one) (2 ^ (adicity + 1 - 1)) ≡ pair (neg one) (neg zero)
  top_power =
      let e : adicity + 1 - 1 ≡ adicity = omega arith in
      ap (λ n. power (doubled O) (pair zero one) (2 ^ n)) e
      ∙ θ_power L.ring adicity (omega (arith, L.adicity_two))
      ∙ both L.top_power (sym (R.neg_zero L.ring))

  pub doubled_laws : Laws (doubled O)
  doubled_laws = record {
    ring = doubled_ring L.ring;
    mul_inverse = λ x d. inverse_by_norm L.ring x (O.inverse (norm O x)) (L.mul_inverse (norm O x) (λ e. d (norm_zero x e)));
    two = λ e. L.two (ap (λ w. w.a) e);
    adicity_two = omega (arith, L.adicity_two);
    top_power = top_power;
    top_no_square = λ x e. N.θ_no_square L x.a x.b (ap (λ w. w.a) e) (ap (λ w. w.b) e);
  }

  -- the roots of one of the orders 2 ^ e: those below, and θ
  pub root_below : (e : ℕ) → e ≤ adicity → pair (root_of_order O e) zero ≡ root_of_order (doubled O) e
  unfolding root_of_order
  root_below e h =
      let k : adicity + 1 - e - 1 ≡ adicity - e = omega arith in
      sym (θ_power L.ring (adicity + 1 - e) (omega arith) ∙ ap (λ n. pair (power O top (2 ^ n)) zero) k)

  pub root_θ : (e : ℕ) → e ≡ adicity + 1 → pair zero one ≡ root_of_order (doubled O) e
  unfolding root_of_order
  root_θ e h =
      let k : adicity + 1 - e ≡ 0 = omega arith in
      sym (ap (λ n. power (doubled O) (pair zero one) (2 ^ n)) k ∙ power_one (doubled_ring L.ring) (pair zero one))
