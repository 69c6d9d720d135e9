-- A value table that is reset: filled with zeros, then one at its start.
use Rattle.std.proofs.Common.{◌≡◌, ℕ, suc, ◌-◌, ◌≤◌, List, [], ◌∷◌, length, set, replicate, sym, refl, ap, arith, subst, ap₂}
use Rattle.std.specs.List.{FoldsTo}
use Rattle.field.specs.Operations.{Operations}
use Rattle.sheet.specs.Outcomes.{first_values}

-- what a function returned, called once for each place, where it returns x and stays as it is
pub all_same : {P F : Type 0} (R : P → F → P → Type 0) (p : P) (x : F) → ((y : F) (q : P) → R p y q → (y ≡ x) × (q ≡ p)) → (vs : List F) (q : P) → FoldsTo R p vs q → vs ≡ replicate (length vs) x
all_same R p x h [] q e = refl
all_same R p x h (y ∷ ys) q (j, r, rest) =
    let k = h y j r in
    ap₂ (λ a rest. a ∷ rest) k.0 (all_same R p x h ys q (subst (λ i. FoldsTo R i ys q) k.1 rest))

module _ {F : Type 0} (O : Operations F) where
  pub reset_is : (m : ℕ) → 1 ≤ m → set (replicate m O.zero) 0 O.one ≡ first_values O m
  reset_is ℕ.zero h = absurd (omega arith)
  reset_is (suc m) h = let e : suc m - 1 ≡ m = omega arith in ap (λ i. O.one ∷ replicate i O.zero) (sym e)
