-- The number of an element, found and unique.
use Rattle.std.proofs.Common.{◌≡◌, ℕ, zero, suc, ◌<◌, true, false, is_some, Some, None, Option, unwrap_or, sym, refl, ap, ◌∙◌, inl, inr, arith, MatchOption}
use Rattle.std.proofs.lemmas.Bool.{cases_eq}
use Rattle.std.proofs.lemmas.Option.{MatchOption-at_some, MatchOption-at_none}
use Rattle.std.specs.Option.{option_or}
use Rattle.std.specs.Bool.{then_some}
use Rattle.field.specs.Operations.{Operations, decided, ones}
use Rattle.writing.specs.Plain.{plain, numbered, is_plain}

module _ {F : Type 0} (O : Operations F) where
  abbrev Found : ℕ → F → Option ℕ → Type 0
  Found p x o = MatchOption o ((v : ℕ) → v < p → ¬ (x ≡ ones O v)) (λ v. (v < p) × (x ≡ ones O v))

  found_step : (p : ℕ) (x : F) (o : Option ℕ) → Found p x o → Found (suc p) x (option_or o (then_some (decided (O.same x (ones O p))) p))
  found_step p x (Some v) h = (omega (arith, h.0), h.1)
  found_step p x None h =
      elim (O.same x (ones O p)) as (λ d. Found (suc p) x (then_some (decided d) p)) [
        | yes e ↦ (omega arith, e)
        | no f ↦ λ v k e. elim (cases_eq v p) [ inl q ↦ f (e ∙ ap (ones O) q) | inr q ↦ h v (omega arith) e ]
      ]

  pub found : (p : ℕ) (x : F) → Found p x (plain O p x)
  unfolding plain
  found zero x = λ v h. absurd (omega (arith, h))
  found (suc p) x = found_step p x (plain O p x) (found p x)

  module _ (p : ℕ) (x : F) where
    pub plain_some : (v : ℕ) → plain O p x ≡ Some v → (v < p) × (x ≡ ones O v)
    plain_some v e = MatchOption-at_some _ _ v e (found p x)

    pub plain_none : plain O p x ≡ None → (v : ℕ) → v < p → ¬ (x ≡ ones O v)
    plain_none e = MatchOption-at_none _ _ e (found p x)

    -- the number is the only one
    module _ (distinct : (u v : ℕ) → u < p → v < p → ones O u ≡ ones O v → u ≡ v) where
      same_found : (v : ℕ) → v < p → x ≡ ones O v → (o : Option ℕ) → Found p x o → o ≡ Some v
      same_found v h e (Some u) f = ap Some (distinct u v f.0 h (sym f.1 ∙ e))
      same_found v h e None f = absurd (f v h e)

      pub plain_only : (v : ℕ) → v < p → x ≡ ones O v → plain O p x ≡ Some v
      plain_only v h e = same_found v h e (plain O p x) (found p x)

      none_found : ((v : ℕ) → ¬ (x ≡ ones O v)) → (o : Option ℕ) → Found p x o → None ≡ o
      none_found never (Some v) f = absurd (never v f.1)
      none_found never None f = refl

      -- what `number` answers is the number
      pub told_number : (r : Option ℕ) → MatchOption r ((v : ℕ) → ¬ (x ≡ ones O v)) (λ v. (v < p) × (x ≡ ones O v)) → r ≡ plain O p x
      told_number (Some v) h = sym (plain_only v h.0 h.1)
      told_number None h = none_found h (plain O p x) (found p x)

    numbered_at : (o : Option ℕ) → is_some o ≡ true → o ≡ Some (unwrap_or o 0)
    numbered_at (Some v) e = refl
    numbered_at None e = let z : ◌≡◌ {A = ℕ} 0 1 = cc in absurd (omega arith)

    -- an element that has a number is that number's
    pub plain_numbered : is_plain O p x ≡ true → plain O p x ≡ Some (numbered O p x)
    unfolding is_plain numbered
    plain_numbered e = numbered_at (plain O p x) e

    pub numbered_right : is_plain O p x ≡ true → (numbered O p x < p) × (x ≡ ones O (numbered O p x))
    numbered_right e = plain_some (numbered O p x) (plain_numbered e)

    pub some_numbered : (v : ℕ) → plain O p x ≡ Some v → (is_plain O p x ≡ true) × (numbered O p x ≡ v)
    unfolding is_plain numbered
    some_numbered v e = (ap is_some e, ap (λ o. unwrap_or o 0) e)

    pub none_numbered : plain O p x ≡ None → is_plain O p x ≡ false
    unfolding is_plain
    none_numbered e = ap is_some e
