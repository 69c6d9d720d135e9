-- What follows from the laws of a commutative ring alone.
use Rattle.std.proofs.Common.{◌≡◌, sym, ap, ◌∙◌}
use Rattle.field.specs.Operations.{Operations}
use Rattle.field.specs.Laws.{Ring}

module _ {F : Type 0} {O : Operations F} (ring : Ring O) where
  open O use {zero, one, add, mul, neg}

  pub zero_add : (x : F) → add zero x ≡ x
  zero_add x = ring.add_comm zero x ∙ ring.add_zero x

  pub neg_add : (x : F) → add (neg x) x ≡ zero
  neg_add x = ring.add_comm (neg x) x ∙ ring.add_neg x

  pub one_mul : (x : F) → mul one x ≡ x
  one_mul x = ring.mul_comm one x ∙ ring.mul_one x

  pub add_mul : (x y z : F) → mul (add x y) z ≡ add (mul x z) (mul y z)
  add_mul x y z = ring.mul_comm (add x y) z ∙ ring.mul_add z x y ∙ ap (λ w. add w (mul z y)) (ring.mul_comm z x) ∙ ap (add (mul x z)) (ring.mul_comm z y)

  pub add_left_comm : (x y z : F) → add x (add y z) ≡ add y (add x z)
  add_left_comm x y z = sym (ring.add_assoc x y z) ∙ ap (λ w. add w z) (ring.add_comm x y) ∙ ring.add_assoc y x z

  pub mul_left_comm : (x y z : F) → mul x (mul y z) ≡ mul y (mul x z)
  mul_left_comm x y z = sym (ring.mul_assoc x y z) ∙ ap (λ w. mul w z) (ring.mul_comm x y) ∙ ring.mul_assoc y x z

  pub add_neg_cancel : (x y : F) → add x (add (neg x) y) ≡ y
  add_neg_cancel x y = sym (ring.add_assoc x (neg x) y) ∙ ap (λ w. add w y) (ring.add_neg x) ∙ zero_add y

  pub neg_add_cancel : (x y : F) → add (neg x) (add x y) ≡ y
  neg_add_cancel x y = sym (ring.add_assoc (neg x) x y) ∙ ap (λ w. add w y) (neg_add x) ∙ zero_add y

  -- what gives zero with x is the negative of x
  pub neg_unique : (x y : F) → add x y ≡ zero → y ≡ neg x
  neg_unique x y e = sym (neg_add_cancel x y) ∙ ap (add (neg x)) e ∙ ring.add_zero (neg x)

  pub neg_zero : neg zero ≡ zero
  neg_zero = sym (neg_unique zero zero (ring.add_zero zero))

  pub neg_neg : (x : F) → neg (neg x) ≡ x
  neg_neg x = sym (neg_unique (neg x) x (neg_add x))

  pub neg_sum : (x y : F) → neg (add x y) ≡ add (neg x) (neg y)
  neg_sum x y = sym (neg_unique (add x y) (add (neg x) (neg y)) (ring.add_assoc x y (add (neg x) (neg y)) ∙ ap (add x) (add_left_comm y (neg x) (neg y) ∙ ap (add (neg x)) (ring.add_neg y)) ∙ add_neg_cancel x zero))

  pub mul_zero : (x : F) → mul x zero ≡ zero
  mul_zero x = sym (neg_add_cancel (mul x zero) (mul x zero)) ∙ ap (add (neg (mul x zero))) (sym (ring.mul_add x zero zero) ∙ ap (mul x) (ring.add_zero zero)) ∙ neg_add (mul x zero)

  pub zero_mul : (x : F) → mul zero x ≡ zero
  zero_mul x = ring.mul_comm zero x ∙ mul_zero x

  pub mul_neg : (x y : F) → mul x (neg y) ≡ neg (mul x y)
  mul_neg x y = neg_unique (mul x y) (mul x (neg y)) (sym (ring.mul_add x y (neg y)) ∙ ap (mul x) (ring.add_neg y) ∙ mul_zero x)

  pub neg_mul : (x y : F) → mul (neg x) y ≡ neg (mul x y)
  neg_mul x y = ring.mul_comm (neg x) y ∙ mul_neg y x ∙ ap neg (ring.mul_comm y x)

  pub eq_of_sub : (x y : F) → add x (neg y) ≡ zero → x ≡ y
  eq_of_sub x y e = sym (neg_neg x) ∙ ap neg (sym (neg_unique x (neg y) e)) ∙ neg_neg y
