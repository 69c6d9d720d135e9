-- The laws of a field for arithmetic modulo p, once for any p.
use Rattle.std.specs.Prelude.{◌≡◌, ℕ, ◌+◌, ◌-◌, ◌*◌, ◌%◌, ◌^◌, ◌<◌, [], ◌∷◌, ◌==◌}
use Rattle.std.proofs.Math.Path.{sym, ap}
use Rattle.std.proofs.Common.{◌∙◌, add_comm, add_assoc, add-zero, mul_comm, mul_assoc, mul-add, mul-one, add-sub_of_le, le_of_lt, add-one, arith, eq-eqb}
use Rattle.std.proofs.Math.Nat.{mod-add-mod, add-mod-mod, add-mod, mod-eq_of_lt, mod_self, pow-zero, pow-succ'}
use Rattle.std.proofs.lemmas.Nat.{mul-mod_first, mul-mod_second}
use Rattle.std.proofs.Math.Decide.{ℕ_discrete}
use Rattle.std.proofs.lemmas.Bool.{ne_eqb}
use Rattle.field.specs.Operations.{Operations, sum, power, ones, decided}
use Rattle.field.specs.Laws.{Ring, Laws}
use Rattle.modular.specs.Residues.{Residues, same_by}

module _ {p : ℕ} {R : Type 0} {value : R → ℕ} {O : Operations R} (m : Residues p value O) where
  open O use {zero, one, add, neg, mul, inverse, top, adicity}

  small : (x : R) → value x % p ≡ value x
  small x = mod-eq_of_lt (m.below x)

  pub power_is : (x : R) (n : ℕ) → value (power O x n) ≡ (value x ^ n) % p
  unfolding power
  power_is x ℕ.zero = m.one_is ∙ sym (ap (λ (k : ℕ). k % p) (pow-zero (value x)) ∙ mod-eq_of_lt (omega (arith, m.large)))
  power_is x (ℕ.suc n) =
      m.mul_is x (power O x n)
      ∙ ap (λ (k : ℕ). (value x * k) % p) (power_is x n)
      ∙ mul-mod_second (value x) (value x ^ n) p
      ∙ ap (λ (k : ℕ). k % p) (sym (pow-succ' (value x) n))

  -- the n-fold sum of one is n modulo p
  pub ones_is : (n : ℕ) → value (ones O n) ≡ n % p
  unfolding ones sum
  ones_is ℕ.zero = m.zero_is ∙ sym (mod-eq_of_lt (omega (arith, m.large)))
  ones_is (ℕ.suc n) =
      m.add_is (ones O n) one
      ∙ ap (λ (k : ℕ). (value (ones O n) + k) % p) m.one_is
      ∙ ap (λ (k : ℕ). (k + 1) % p) (ones_is n)
      ∙ mod-add-mod n p 1
      ∙ ap (λ (k : ℕ). k % p) (add-one n)

  -- every element is the multiple of one by its number; the multiples below p are distinct, and that by p is zero
  pub is_ones : (x : R) (n : ℕ) → value x ≡ n % p → x ≡ ones O n
  is_ones x n e = m.only x (ones O n) (e ∙ sym (ones_is n))

  pub is_number : (x : R) → x ≡ ones O (value x)
  is_number x = is_ones x (value x) (sym (small x))

  pub ones_distinct : (u v : ℕ) → u < p → v < p → ones O u ≡ ones O v → u ≡ v
  ones_distinct u v h k e = sym (mod-eq_of_lt h) ∙ sym (ones_is u) ∙ ap value e ∙ ones_is v ∙ mod-eq_of_lt k

  pub ones_vanish : ones O p ≡ zero
  ones_vanish = m.only _ _ (ones_is p ∙ mod_self p ∙ sym m.zero_is)

  -- an element is known by its number as the one coordinate
  pub lone_coordinate : (x y : R) → value x ∷ [] ≡ value y ∷ [] → x ≡ y
  lone_coordinate x y e = m.only x y (cc)

  -- the test of equal numbers is the decision of equal elements
  pub same_is : (x y : R) → (value x == value y) ≡ decided (same_by value m.only x y)
  same_is x y =
      elim (ℕ_discrete (value x) (value y)) as (λ d. (value x == value y) ≡ decided (elim d [ yes e ↦ yes (m.only x y e) | no n ↦ no (λ e. n (ap value e)) ])) [
        | yes e ↦ eq-eqb (value x) (value y) e
        | no n ↦ ne_eqb (value x) (value y) n
      ]

  ring_of : Ring O
  ring_of = record {
    add_comm = λ x y. m.only _ _ (m.add_is x y ∙ ap (λ (n : ℕ). n % p) (add_comm (value x) (value y)) ∙ sym (m.add_is y x));
    add_assoc = λ x y z. m.only _ _
        (m.add_is (add x y) z
        ∙ ap (λ (n : ℕ). (n + value z) % p) (m.add_is x y)
        ∙ mod-add-mod (value x + value y) p (value z)
        ∙ ap (λ (n : ℕ). n % p) (add_assoc (value x) (value y) (value z))
        ∙ sym (add-mod-mod (value x) (value y + value z) p)
        ∙ ap (λ (n : ℕ). (value x + n) % p) (sym (m.add_is y z))
        ∙ sym (m.add_is x (add y z)));
    add_zero = λ x. m.only _ _ (m.add_is x zero ∙ ap (λ (n : ℕ). (value x + n) % p) m.zero_is ∙ ap (λ (n : ℕ). n % p) (add-zero (value x)) ∙ small x);
    add_neg = λ x. m.only _ _
        (m.add_is x (neg x)
        ∙ ap (λ (n : ℕ). (value x + n) % p) (m.neg_is x)
        ∙ add-mod-mod (value x) (p - value x) p
        ∙ ap (λ (n : ℕ). n % p) (add-sub_of_le (le_of_lt (m.below x)))
        ∙ mod_self p
        ∙ sym m.zero_is);
    mul_comm = λ x y. m.only _ _ (m.mul_is x y ∙ ap (λ (n : ℕ). n % p) (mul_comm (value x) (value y)) ∙ sym (m.mul_is y x));
    mul_assoc = λ x y z. m.only _ _
        (m.mul_is (mul x y) z
        ∙ ap (λ (n : ℕ). (n * value z) % p) (m.mul_is x y)
        ∙ mul-mod_first (value x * value y) (value z) p
        ∙ ap (λ (n : ℕ). n % p) (mul_assoc (value x) (value y) (value z))
        ∙ sym (mul-mod_second (value x) (value y * value z) p)
        ∙ ap (λ (n : ℕ). (value x * n) % p) (sym (m.mul_is y z))
        ∙ sym (m.mul_is x (mul y z)));
    mul_one = λ x. m.only _ _ (m.mul_is x one ∙ ap (λ (n : ℕ). (value x * n) % p) m.one_is ∙ ap (λ (n : ℕ). n % p) (mul-one (value x)) ∙ small x);
    mul_add = λ x y z. m.only _ _
        (m.mul_is x (add y z)
        ∙ ap (λ (n : ℕ). (value x * n) % p) (m.add_is y z)
        ∙ mul-mod_second (value x) (value y + value z) p
        ∙ ap (λ (n : ℕ). n % p) (mul-add (value x) (value y) (value z))
        ∙ add-mod (value x * value y) (value x * value z) p
        ∙ ap (λ (n : ℕ). (n + (value x * value z) % p) % p) (sym (m.mul_is x y))
        ∙ ap (λ (n : ℕ). (value (mul x y) + n) % p) (sym (m.mul_is x z))
        ∙ sym (m.add_is (mul x y) (mul x z)));
  }

  pub laws_of : Laws O
  laws_of = record {
    ring = ring_of;
    two = λ e.
        let two : value (add one one) ≡ 2 =
        m.add_is one one ∙ ap (λ (n : ℕ). (n + n) % p) m.one_is ∙ mod-eq_of_lt m.large in
        let k : ◌≡◌ {A = ℕ} 2 0 = sym two ∙ ap value e ∙ m.zero_is in
        omega arith;
    mul_inverse = λ x d.
        m.only _ _ (m.mul_is x (inverse x) ∙ m.inverse_is x (λ e. d (m.only x zero (e ∙ sym m.zero_is))) ∙ sym m.one_is);
    adicity_two = m.adicity_two;
    top_power = m.only _ _
        (power_is top (2 ^ (adicity - 1))
        ∙ m.top_power
        ∙ sym (m.neg_is one ∙ ap (λ (n : ℕ). (p - n) % p) m.one_is ∙ mod-eq_of_lt (omega (arith, m.large))));
    top_no_square = λ x e. m.top_no_square x (sym (m.mul_is x x) ∙ ap value e);
  }
