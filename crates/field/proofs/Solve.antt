-- A solver for equations that hold in every commutative ring. Assumes nothing.
--   An expression is brought to a sum of terms, each a whole number times a product of variables, sorted, none with the factor 0.
--   Two expressions with the same such sum have the same value. Call `by_ring`, at the end of the file.
use Rattle.std.proofs.Common.{◌≡◌, ℕ, suc, ◌+◌, ◌-◌, ◌*◌, Bool, true, false, T, eqb, leb, List, [], ◌∷◌, sym, refl, ap, ◌∙◌, ap₂, eqb→eq}
use Prim.Native.Nat as Nat
use native.Mathlib.Nat as NatL
use Rattle.field.specs.Operations.{Operations}
use Rattle.field.specs.Laws.{Ring}
use Rattle.field.proofs.Ring as R

-- all tighter than `◌∷◌`, which is at 67
infixl 80 ◌⊞◌ ◌⊟◌
infixl 85 ◌⊠◌
infix 90 ∸◌
pub data Expr : Type 0 where
  var : ℕ → Expr
  ⓪ : Expr
  ① : Expr
  ◌⊞◌ : Expr → Expr → Expr
  ◌⊠◌ : Expr → Expr → Expr
  ∸◌ : Expr → Expr

abbrev pub ◌⊟◌ : Expr → Expr → Expr
a ⊟ b = a ⊞ ∸ b

-- ── The normal form ──

-- up - down times the product of the variables, which are sorted; up or down is 0
pub record Term : Type 0 where
  pub up : ℕ
  pub down : ℕ
  pub of : List ℕ

abbrev pub term : ℕ → ℕ → List ℕ → Term
term p q m = record { up = p - q; down = q - p; of = m }

abbrev pub insert : ℕ → List ℕ → List ℕ
insert x [] = x ∷ []
insert x (y ∷ m) = elim (leb x y) [ true ↦ x ∷ y ∷ m | false ↦ y ∷ insert x m ]

abbrev pub join : List ℕ → List ℕ → List ℕ
join [] n = n
join (x ∷ m) n = insert x (join m n)

abbrev pub same : List ℕ → List ℕ → Bool
same [] [] = true
same [] (y ∷ n) = false
same (x ∷ m) [] = false
same (x ∷ m) (y ∷ n) = elim (eqb x y) [ true ↦ same m n | false ↦ false ]

abbrev pub before : List ℕ → List ℕ → Bool
before [] n = true
before (x ∷ m) [] = false
before (x ∷ m) (y ∷ n) = elim (eqb x y) [ true ↦ before m n | false ↦ leb x y ]

-- the term in front, unless its factor is 0
abbrev pub keep : Term → List Term → List Term
keep t p = elim (eqb t.up 0) [ true ↦ elim (eqb t.down 0) [ true ↦ p | false ↦ t ∷ p ] | false ↦ t ∷ p ]

abbrev pub put : Term → List Term → List Term
put t [] = t ∷ []
put t (u ∷ p) =
    elim (same t.of u.of) [
      | true ↦ keep (term (t.up + u.up) (t.down + u.down) t.of) p
      | false ↦ elim (before t.of u.of) [ true ↦ t ∷ u ∷ p | false ↦ u ∷ put t p ]
    ]

abbrev pub plus : List Term → List Term → List Term
plus [] q = q
plus (t ∷ p) q = put t (plus p q)

abbrev pub times : Term → Term → Term
times t u = term (t.up * u.up + t.down * u.down) (t.up * u.down + t.down * u.up) (join t.of u.of)

abbrev pub scale : Term → List Term → List Term
scale t [] = []
scale t (u ∷ p) = put (times t u) (scale t p)

abbrev pub product : List Term → List Term → List Term
product [] q = []
product (t ∷ p) q = plus (scale t q) (product p q)

abbrev pub minus : List Term → List Term
minus [] = []
minus (t ∷ p) = record { up = t.down; down = t.up; of = t.of } ∷ minus p

abbrev pub norm : Expr → List Term
norm (var i) = record { up = 1; down = 0; of = i ∷ [] } ∷ []
norm ⓪ = []
norm ① = record { up = 1; down = 0; of = [] } ∷ []
norm (a ⊞ b) = plus (norm a) (norm b)
norm (a ⊠ b) = product (norm a) (norm b)
norm (∸ a) = minus (norm a)

-- ── What they stand for ──

module _ {F : Type 0} (O : Operations F) (ρ : List F) where
  open O use {zero, one, add, mul, neg}

  abbrev pub at : List F → ℕ → F
  at [] n = zero
  at (x ∷ xs) Nat.zero = x
  at (x ∷ xs) (suc n) = at xs n

  abbrev pub eval : Expr → F
  eval (var i) = at ρ i
  eval ⓪ = zero
  eval ① = one
  eval (a ⊞ b) = add (eval a) (eval b)
  eval (a ⊠ b) = mul (eval a) (eval b)
  eval (∸ a) = neg (eval a)

  abbrev vars : List ℕ → F
  vars [] = one
  vars (x ∷ m) = mul (at ρ x) (vars m)

  abbrev many : ℕ → F → F
  many Nat.zero x = zero
  many (suc n) x = add x (many n x)

  abbrev whole : ℕ → ℕ → F → F
  whole p q x = add (many p x) (neg (many q x))

  abbrev value : Term → F
  value t = whole t.up t.down (vars t.of)

  abbrev sum : List Term → F
  sum [] = zero
  sum (t ∷ p) = add (value t) (sum p)

same_sound : (m n : List ℕ) → T (same m n) → m ≡ n
same_sound [] [] t = refl
same_sound [] (y ∷ n) t = absurd t
same_sound (x ∷ m) [] t = absurd t
same_sound (x ∷ m) (y ∷ n) t = go (eqb x y) (eqb→eq x y) (same_sound m n) t
  where
    go : (b : Bool) → (T b → x ≡ y) → (T (same m n) → m ≡ n) → T (elim b [ true ↦ same m n | false ↦ false ]) → (x ∷ m) ≡ (y ∷ n)
    go true e ih t = λ i. e tt i ∷ ih t i
    go false e ih t = absurd t

-- ── They stand for the same ──

module _ {F : Type 0} {O : Operations F} (ring : Ring O) (ρ : List F) where
  open O use {zero, one, add, mul, neg}

  abbrev A : ℕ → F
  A = at O ρ ρ

  abbrev V : List ℕ → F
  V = vars O ρ

  abbrev M : ℕ → F → F
  M = many O ρ

  abbrev W : ℕ → ℕ → F → F
  W = whole O ρ

  abbrev U : Term → F
  U = value O ρ

  abbrev P : List Term → F
  P = sum O ρ

  abbrev E : Expr → F
  E = eval O ρ

  insert_ok : (x : ℕ) (m : List ℕ) → V (insert x m) ≡ mul (A x) (V m)
  insert_ok x [] = refl
  insert_ok x (y ∷ m) =
      elim (leb x y) as (λ b. V (elim b [ true ↦ x ∷ y ∷ m | false ↦ y ∷ insert x m ]) ≡ mul (A x) (V (y ∷ m))) [
        | true ↦ refl
        | false ↦ ap (mul (A y)) (insert_ok x m) ∙ R.mul_left_comm ring (A y) (A x) (V m)
      ]

  join_ok : (m n : List ℕ) → V (join m n) ≡ mul (V m) (V n)
  join_ok [] n = sym (R.one_mul ring (V n))
  join_ok (x ∷ m) n = insert_ok x (join m n) ∙ ap (mul (A x)) (join_ok m n) ∙ sym (ring.mul_assoc (A x) (V m) (V n))

  -- whole numbers times a value
  many_add : (p q : ℕ) (x : F) → M (p + q) x ≡ add (M p x) (M q x)
  many_add Nat.zero q x = ap (λ n. M n x) (NatL.zero-add q) ∙ sym (R.zero_add ring (M q x))
  many_add (suc p) q x = ap (λ n. M n x) (NatL.suc-add p q) ∙ ap (add x) (many_add p q x) ∙ sym (ring.add_assoc x (M p x) (M q x))

  mul_many : (q : ℕ) (x y : F) → mul x (M q y) ≡ M q (mul x y)
  mul_many Nat.zero x y = R.mul_zero ring x
  mul_many (suc q) x y = ring.mul_add x y (M q y) ∙ ap (add (mul x y)) (mul_many q x y)

  many_mul : (p q : ℕ) (x y : F) → M (p * q) (mul x y) ≡ mul (M p x) (M q y)
  many_mul Nat.zero q x y = ap (λ n. M n (mul x y)) (NatL.zero-mul q) ∙ sym (R.zero_mul ring (M q y))
  many_mul (suc p) q x y =
      ap (λ n. M n (mul x y)) (NatL.suc-mul p q)
      ∙ many_add (p * q) q (mul x y)
      ∙ ap₂ add (many_mul p q x y) (sym (mul_many q x y))
      ∙ ring.add_comm (mul (M p x) (M q y)) (mul x (M q y))
      ∙ sym (R.add_mul ring x (M p x) (M q y))

  whole_less : (p q : ℕ) (x : F) → W (p - q) (q - p) x ≡ W p q x
  whole_less Nat.zero q x = ap₂ (λ m n. W m n x) (NatL.zero-sub q) (NatL.sub-zero q)
  whole_less (suc p) Nat.zero x = ap₂ (λ m n. W m n x) (NatL.sub-zero (suc p)) (NatL.zero-sub (suc p))
  whole_less (suc p) (suc q) x =
      ap₂ (λ m n. W m n x) (NatL.suc-sub-suc p q) (NatL.suc-sub-suc q p)
      ∙ whole_less p q x
      ∙ sym (ap (add (add x (M p x))) (R.neg_sum ring x (M q x)) ∙ ring.add_assoc x (M p x) (add (neg x) (neg (M q x))) ∙ ap (add x) (R.add_left_comm ring (M p x) (neg x) (neg (M q x))) ∙ R.add_neg_cancel ring x (W p q x))

  swap : (a b c d : F) → add (add a c) (neg (add b d)) ≡ add (add a (neg b)) (add c (neg d))
  swap a b c d = simp (R.neg_sum ring, ring.add_assoc, R.add_left_comm ring)

  whole_add : (p q r s : ℕ) (x : F) → W (p + r) (q + s) x ≡ add (W p q x) (W r s x)
  whole_add p q r s x = ap₂ (λ m n. add m (neg n)) (many_add p r x) (many_add q s x) ∙ swap (M p x) (M q x) (M r x) (M s x)

  foil : (a b c d : F) → add (add (mul a c) (mul b d)) (neg (add (mul a d) (mul b c))) ≡ mul (add a (neg b)) (add c (neg d))
  foil a b c d = simp (R.neg_sum ring, R.neg_mul ring, R.mul_neg ring, R.neg_neg ring, R.add_mul ring, ring.mul_add, ring.add_assoc, R.add_left_comm ring, ring.add_comm)

  whole_mul : (p q r s : ℕ) (x y : F) → W (p * r + q * s) (p * s + q * r) (mul x y) ≡ mul (W p q x) (W r s y)
  whole_mul p q r s x y =
      ap₂ (λ m n. add m (neg n))
      (many_add (p * r) (q * s) (mul x y) ∙ ap₂ add (many_mul p r x y) (many_mul q s x y))
      (many_add (p * s) (q * r) (mul x y) ∙ ap₂ add (many_mul p s x y) (many_mul q r x y))
      ∙ foil (M p x) (M q x) (M r y) (M s y)

  whole_zero : (x : F) → W 0 0 x ≡ zero
  whole_zero x = R.zero_add ring (neg zero) ∙ R.neg_zero ring

  keep_ok : (t : Term) (p : List Term) → P (keep t p) ≡ add (U t) (P p)
  keep_ok t p = go (eqb t.up 0) (eqb t.down 0) (eqb→eq t.up 0) (eqb→eq t.down 0)
    where
      go : (a b : Bool) → (T a → t.up ≡ 0) → (T b → t.down ≡ 0) → P (elim a [ true ↦ elim b [ true ↦ p | false ↦ t ∷ p ] | false ↦ t ∷ p ]) ≡ add (U t) (P p)
      go true true e f = sym (ap₂ (λ m n. add (W m n (V t.of)) (P p)) (e tt) (f tt) ∙ ap (λ w. add w (P p)) (whole_zero (V t.of)) ∙ R.zero_add ring (P p))
      go true false e f = refl
      go false true e f = refl
      go false false e f = refl

  put_ok : (t : Term) (p : List Term) → P (put t p) ≡ add (U t) (P p)
  put_ok t [] = refl
  put_ok t (u ∷ p) = choose (same t.of u.of) (same_sound t.of u.of) (put_ok t p)
    where
      choose : (b : Bool) → (T b → t.of ≡ u.of) → P (put t p) ≡ add (U t) (P p)
          → P (elim b [
            | true ↦ keep (term (t.up + u.up) (t.down + u.down) t.of) p
            | false ↦ elim (before t.of u.of) [ true ↦ t ∷ u ∷ p | false ↦ u ∷ put t p ]
          ]) ≡ add (U t) (P (u ∷ p))
      choose true e ih =
          keep_ok (term (t.up + u.up) (t.down + u.down) t.of) p
          ∙ ap (λ w. add w (P p))
          (whole_less (t.up + u.up) (t.down + u.down) (V t.of)
          ∙ whole_add t.up t.down u.up u.down (V t.of)
          ∙ ap (λ m. add (U t) (W u.up u.down (V m))) (e tt))
          ∙ ring.add_assoc (U t) (U u) (P p)
      choose false e ih =
          elim (before t.of u.of) as (λ b. P (elim b [ true ↦ t ∷ u ∷ p | false ↦ u ∷ put t p ]) ≡ add (U t) (P (u ∷ p))) [
            | true ↦ refl
            | false ↦ ap (add (U u)) ih ∙ R.add_left_comm ring (U u) (U t) (P p)
          ]

  plus_ok : (p q : List Term) → P (plus p q) ≡ add (P p) (P q)
  plus_ok [] q = sym (R.zero_add ring (P q))
  plus_ok (t ∷ p) q = put_ok t (plus p q) ∙ ap (add (U t)) (plus_ok p q) ∙ sym (ring.add_assoc (U t) (P p) (P q))

  times_ok : (t u : Term) → U (times t u) ≡ mul (U t) (U u)
  times_ok t u =
      whole_less (t.up * u.up + t.down * u.down) (t.up * u.down + t.down * u.up) (V (join t.of u.of))
      ∙ ap (W (t.up * u.up + t.down * u.down) (t.up * u.down + t.down * u.up)) (join_ok t.of u.of)
      ∙ whole_mul t.up t.down u.up u.down (V t.of) (V u.of)

  scale_ok : (t : Term) (p : List Term) → P (scale t p) ≡ mul (U t) (P p)
  scale_ok t [] = sym (R.mul_zero ring (U t))
  scale_ok t (u ∷ p) = put_ok (times t u) (scale t p) ∙ ap₂ add (times_ok t u) (scale_ok t p) ∙ sym (ring.mul_add (U t) (U u) (P p))

  product_ok : (p q : List Term) → P (product p q) ≡ mul (P p) (P q)
  product_ok [] q = sym (R.zero_mul ring (P q))
  product_ok (t ∷ p) q = plus_ok (scale t q) (product p q) ∙ ap₂ add (scale_ok t q) (product_ok p q) ∙ sym (R.add_mul ring (U t) (P p) (P q))

  turned : (p q : ℕ) (x : F) → W q p x ≡ neg (W p q x)
  turned p q x = sym (R.neg_sum ring (M p x) (neg (M q x)) ∙ ap (add (neg (M p x))) (R.neg_neg ring (M q x)) ∙ ring.add_comm (neg (M p x)) (M q x))

  minus_ok : (p : List Term) → P (minus p) ≡ neg (P p)
  minus_ok [] = sym (R.neg_zero ring)
  minus_ok (t ∷ p) = ap₂ add (turned t.up t.down (V t.of)) (minus_ok p) ∙ sym (R.neg_sum ring (U t) (P p))

  unit_ok : (x : F) → add (W 1 0 x) zero ≡ x
  unit_ok x = ring.add_zero (W 1 0 x) ∙ ap₂ add (ring.add_zero x) (R.neg_zero ring) ∙ ring.add_zero x

  norm_ok : (e : Expr) → P (norm e) ≡ E e
  norm_ok (var i) = unit_ok (mul (A i) one) ∙ ring.mul_one (A i)
  norm_ok ⓪ = refl
  norm_ok ① = unit_ok one
  norm_ok (a ⊞ b) = plus_ok (norm a) (norm b) ∙ ap₂ add (norm_ok a) (norm_ok b)
  norm_ok (a ⊠ b) = product_ok (norm a) (norm b) ∙ ap₂ mul (norm_ok a) (norm_ok b)
  norm_ok (∸ a) = minus_ok (norm a) ∙ ap neg (norm_ok a)

  pub solve : (e f : Expr) → norm e ≡ norm f → eval O ρ e ≡ eval O ρ f
  solve e f h = sym (norm_ok e) ∙ ap P h ∙ norm_ok f

-- ── The solver as it is called: by-ring laws 2 (λ a b. a ⊞ b ≈ b ⊞ a) refl : (a b : F) → add a b ≡ add b a ──

infix 75 ◌≈◌
abbrev pub ◌≈◌ : Expr → Expr → Expr × Expr
a ≈ b = (a, b)

abbrev pub Curried : ℕ → Type 0 → Type 0 → Type 0
Curried Nat.zero A B = B
Curried (suc n) A B = A → Curried n A B

-- f at the variables i, i + 1, ..
abbrev pub from : (n i : ℕ) → Curried n Expr (Expr × Expr) → Expr × Expr
from Nat.zero i e = e
from (suc n) i f = from n (suc i) (f (var i))

-- the equation at any n values, after those that row puts before them
abbrev pub AtAll : {F : Type 0} (O : Operations F) → (n : ℕ) → (List F → List F) → Expr × Expr → Type 0
AtAll O Nat.zero row e = eval O (row []) e.0 ≡ eval O (row []) e.1
AtAll {F} O (suc n) row e = (x : F) → AtAll O n (λ r. row (x ∷ r)) e

module _ {F : Type 0} {O : Operations F} (ring : Ring O) where
  open O use {zero, one, add, mul, neg}

  at_all : (n : ℕ) (row : List F → List F) (e : Expr × Expr) → norm e.0 ≡ norm e.1 → AtAll O n row e
  at_all Nat.zero row e h = solve ring (row []) e.0 e.1 h
  at_all (suc n) row e h = λ x. at_all n (λ r. row (x ∷ r)) e h

  pub by_ring : (n : ℕ) (e : Curried n Expr (Expr × Expr)) → norm (from n 0 e).0 ≡ norm (from n 0 e).1 → AtAll O n (λ r. r) (from n 0 e)
  by_ring n e h = at_all n (λ r. r) (from n 0 e) h

-- ── With premises: the two sides differ by a sum of k (l − r), for premises l ≡ r. The author gives each factor k ──
--   by-ring-from laws 3 (λ a b c. c by (a ≈ b) ∷ [] ⊢ a ⊠ c ≈ b ⊠ c) refl : (a b c : F) → a ≡ b → mul a c ≡ mul b c

pub record Part : Type 0 where
  pub factor : Expr
  pub premise : Expr × Expr

abbrev pub ◌by◌ : Expr → Expr × Expr → Part
k by e = record { factor = k; premise = e }

infix 70 ◌by◌
infix 3 ◌⊢◌
pub record Claim : Type 0 where
  pub parts : List Part
  pub goal : Expr × Expr

abbrev pub ◌⊢◌ : List Part → Expr × Expr → Claim
ps ⊢ e = record { parts = ps; goal = e }

abbrev pub combined : List Part → Expr
combined [] = ⓪
combined (t ∷ c) = t.factor ⊠ (t.premise.0 ⊟ t.premise.1) ⊞ combined c

abbrev pub claim_from : (n i : ℕ) → Curried n Expr Claim → Claim
claim_from Nat.zero i e = e
claim_from (suc n) i f = claim_from n (suc i) (f (var i))

abbrev pub Checked : Claim → Type 0
Checked c = norm (c.goal.0 ⊟ c.goal.1) ≡ norm (combined c.parts)

module _ {F : Type 0} (O : Operations F) where
  abbrev pub Given : List F → List Part → Expr × Expr → Type 0
  Given ρ [] e = eval O ρ e.0 ≡ eval O ρ e.1
  Given ρ (t ∷ c) e = eval O ρ t.premise.0 ≡ eval O ρ t.premise.1 → Given ρ c e

  abbrev pub GivenAll : ℕ → (List F → List F) → Claim → Type 0
  GivenAll Nat.zero row c = Given (row []) c.parts c.goal
  GivenAll (suc n) row c = (x : F) → GivenAll n (λ r. row (x ∷ r)) c

module _ {F : Type 0} {O : Operations F} (ring : Ring O) where
  open O use {zero, one, add, mul, neg}

  from_parts : (ρ : List F) (c : List Part) (e : Expr × Expr)
      → add (eval O ρ e.0) (neg (eval O ρ e.1)) ≡ eval O ρ (combined c)
      → Given O ρ c e
  from_parts ρ [] e d = R.eq_of_sub ring (eval O ρ e.0) (eval O ρ e.1) d
  from_parts ρ (t ∷ c) e d = λ h.
      from_parts ρ c e
      (d
      ∙ ap (λ w. add w (eval O ρ (combined c)))
      (ap (λ w. mul (eval O ρ t.factor) (add w (neg (eval O ρ t.premise.1)))) h
      ∙ ap (mul (eval O ρ t.factor)) (ring.add_neg (eval O ρ t.premise.1))
      ∙ R.mul_zero ring (eval O ρ t.factor))
      ∙ R.zero_add ring (eval O ρ (combined c)))

  given_all : (n : ℕ) (row : List F → List F) (c : Claim) → Checked c → GivenAll O n row c
  given_all Nat.zero row c h = from_parts (row []) c.parts c.goal (solve ring (row []) (c.goal.0 ⊟ c.goal.1) (combined c.parts) h)
  given_all (suc n) row c h = λ x. given_all n (λ r. row (x ∷ r)) c h

  pub by_ring_from : (n : ℕ) (c : Curried n Expr Claim) → Checked (claim_from n 0 c) → GivenAll O n (λ r. r) (claim_from n 0 c)
  by_ring_from n c h = given_all n (λ r. r) (claim_from n 0 c) h
