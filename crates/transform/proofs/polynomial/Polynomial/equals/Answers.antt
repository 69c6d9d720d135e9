use Rattle.std.proofs.Common.{◌≡◌, ◌↔◌, Bool, true, MatchBool, HoldsAt, ℕ, ◌+◌, ◌<◌, ◌≤◌, List, length, slice_index_or, sym, refl, subst, zero-add, ◌∙◌, arith, rules}
use Rattle.std.proofs.Math.Nat.{sub-zero}
use native.Mathlib.Decide.{dec_lt}
use Rattle.std.specs.List.{AllWithin, range_with_len}
use Rattle.std.proofs.lemmas.List.{get_or_past}
use Rattle.std.proofs.lemmas.List.FromFn.{length-range_with_len, get_or-range_with_len}
use Rattle.std.proofs.lemmas.Iterator.{cases_from_all, YieldsList-from_range}
use Rattle.std.proofs.lemmas.Iterator.Search.{true_from_All}
use Rattle.field.specs.Operations.{Operations}
use Rattle.transform.specs.Outcomes.{Equal}
use Rattle.transform.specs.Polynomial.{coefficient}
use Rattle.transform.proofs.polynomial.Polynomial.equals.Goals as goal

abbrev Agrees : {F : Type 0} (O : Operations F) (u v : List F) (i : ℕ) → Type 0
Agrees O u v i = coefficient O u i ≡ coefficient O v i

abbrev Differs : {F : Type 0} (O : Operations F) (u v : List F) (i : ℕ) → Type 0
Differs O u v i = ¬ (Agrees O u v i)

-- past both ends there is nothing to compare
equal_from : {F : Type 0} (O : Operations F) (u v : List F) (n : ℕ) → length u ≤ n → length v ≤ n
    → AllWithin (Agrees O u v) (range_with_len 0 n) 0 (length (range_with_len 0 n)) → Equal O u v
equal_from O u v n h k agree i =
    elim (dec_lt i n) [
      | yes l ↦ subst (Agrees O u v) (get_or-range_with_len 0 n i 0 l ∙ zero-add i) (agree i 0 (omega arith) (omega (arith, length-range_with_len 0 n)))
      | no l ↦ get_or_past u i O.zero (omega arith) ∙ sym (get_or_past v i O.zero (omega arith))
    ]

-- what was gone over tells its end, n
same_from : {F : Type 0} (O : Operations F) (u v : List F) (r : Bool) {n : ℕ}
    → MatchBool r (AllWithin (Agrees O u v) (range_with_len 0 n) 0 (length (range_with_len 0 n)))
    ((k : ℕ) × (k < length (range_with_len 0 n)) × HoldsAt (Differs O u v) (range_with_len 0 n) k)
    → length u ≤ n → length v ≤ n → (r ≡ true) ↔ Equal O u v
same_from O u v r {n} told h k = (
  λ e. equal_from O u v n h k (rw e at told),
  λ e. true_from_All (Agrees O u v) (Differs O u v) r (range_with_len 0 n) (λ x p q. q p) told (λ j d l. e (slice_index_or (range_with_len 0 n) j d)),
)

pub returns : goal.returns
returns g c =
    let O = g.F.Field.ops in
    let u = c.args.self.now.coefficients.now in
    let v = c.args.other.now.coefficients.now in
    let all = YieldsList-from_range 0 _ _ refl (sub-zero _) in
    let told = cases_from_all _ _ c.all.result (Agrees O u v) (Differs O u v) c.all.ensures.ran all (λ x q k. search rules) (λ x q k. search rules) in
    same_from O u v c.all.result told (omega arith) (omega arith)
