-- Products, inverses and roots of one by exponents: of numbers, and of the elements that they stand for.
use Rattle.std.proofs.Common.{◌≡◌, ℕ, zero, suc, ◌+◌, ◌-◌, ◌*◌, ◌%◌, ◌^◌, ◌<◌, ◌≤◌, ◌⊎◌, inl, inr, sym, refl, ap, ◌∙◌, arith, lit<}
use Rattle.std.proofs.Math.Nat.{add-mul-mod_self_left, mod-eq_of_lt, mod-mod}
use Rattle.std.proofs.lemmas.Nat.{pow-mod}
use lib.Pow.{pow_mono}
use Rattle.powers.specs.Logarithm.{Logarithm}
use Rattle.powers.proofs.Cycle.{pow_mul, cycle, product}
use Rattle.powers.proofs.Rules.{turn, never_zero}
use Rattle.field.specs.Operations.{root_of_order}
use Rattle.modular.specs.Field12289.{F12289, only12289, element12289, ops12289}
use Rattle.modular.specs.Laws12289.{arithmetic12289}
use Rattle.modular.proofs.Roots.{reduced, reduced_root}

-- 12288 - i and 12287 i are the same exponent of 11, which has the order 12288
same_exponent : (i : ℕ) → i < 12288 → (12288 - i) % 12288 ≡ (i * 12287) % 12288
same_exponent zero h = refl
same_exponent (suc i) h =
    let e : suc i * 12287 ≡ 12288 - suc i + 12288 * i = omega arith in
    sym (ap (λ (n : ℕ). n % 12288) e ∙ add-mul-mod_self_left (12288 - suc i) 12288 i)

pub inverse_number : (x i : ℕ) → Logarithm x i → 11 ^ (12288 - i) % 12289 ≡ x ^ 12287 % 12289
inverse_number x i l =
    sym (cycle 11 12288 12289 turn (12288 - i))
    ∙ ap (λ (n : ℕ). 11 ^ n % 12289) (same_exponent i l.below)
    ∙ cycle 11 12288 12289 turn (i * 12287)
    ∙ ap (λ (n : ℕ). n % 12289) (sym (pow_mul 11 i 12287))
    ∙ sym (pow-mod (11 ^ i) 12287 12289)
    ∙ ap (λ (n : ℕ). n ^ 12287 % 12289) l.power

-- the top is the cube of 11
pub root_number : (e : ℕ) → e ≤ 12 → 11 ^ ((3 * 2 ^ (12 - e)) % 2 ^ 32) % 12289 ≡ 1331 ^ (2 ^ (12 - e)) % 12289
root_number e h =
    let n : ℕ = 2 ^ (12 - e) in
    let small : 3 * n < 2 ^ 32 = omega (arith, pow_mono {i = 12 - e} {j = 12} (omega arith)) in
    ap (λ (k : ℕ). 11 ^ k % 12289) (mod-eq_of_lt small) ∙ ap (λ (k : ℕ). k % 12289) (sym (pow_mul 11 3 n))

-- zero is the one element without a logarithm
pub no_log : (a : F12289) → (a.value ≡ 0) ⊎ (12289 ≤ a.value) → a ≡ element12289 0
no_log a (inl z) = only12289 a (element12289 0) z
no_log a (inr big) = let z : ⊥ = omega (arith, a.below) in absurd z

pub nonzero : (a : F12289) (x : ℕ) → Logarithm a.value x → ¬ (a ≡ element12289 0)
nonzero a x l e = never_zero x (l.power ∙ ap (λ (b : F12289). b.value) e)

pub product_by : (a b : F12289) (x y : ℕ) → Logarithm a.value x → Logarithm b.value y → element12289 (11 ^ (x + y) % 12289) ≡ ops12289.mul a b
product_by a b x y l k =
    only12289 _ _ (mod-mod (11 ^ (x + y)) 12289 ∙ product 11 12288 12289 turn x y a.value b.value l.power k.power)

pub inverse_by : (a : F12289) (x : ℕ) → Logarithm a.value x → element12289 (11 ^ (12288 - x) % 12289) ≡ ops12289.inverse a
inverse_by a x l = ap element12289 (inverse_number a.value x l) ∙ reduced (lit< tt) (a.value ^ 12287)

pub root_by : (e : ℕ) → e ≤ 12 → element12289 (11 ^ ((3 * 2 ^ (12 - e)) % 2 ^ 32) % 12289) ≡ root_of_order ops12289 e
root_by e h = ap element12289 (root_number e h) ∙ reduced_root (lit< tt) arithmetic12289 e
