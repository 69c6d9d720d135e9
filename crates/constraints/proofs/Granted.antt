-- What a granted check of the row lists says of them.
use Rattle.std.proofs.Common.{◌≡◌, ℕ, zero, suc, ◌+◌, ◌-◌, ◌<◌, ◌≤◌, List, None, sym, ◌∙◌, inl, inr, arith}
use Rattle.std.proofs.lemmas.Bool.{cases_lt, cases_eq}
use Rattle.frames.specs.Little.{le4}
use Rattle.frames.proofs.Faults.{no_fault, then_both}
use Rattle.constraints.specs.Opened.{items, beyond, lists}
use Rattle.constraints.proofs.Walk.{lists_go, lists_short, lists_over}

module _ (xs : List ℕ) (w p stop : ℕ) where
  pub lists_step : (n at : ℕ) → 0 < n → lists xs w p stop n at ≡ None
      → (beyond xs at ≤ stop) × (items xs w p (le4 xs at) (at + 4) ≡ None) × (lists xs w p stop (n - 1) (beyond xs at) ≡ None)
  lists_step n at h e =
      elim (cases_lt stop (beyond xs at)) [
        | inl f ↦ absurd (no_fault (8, at) (sym (lists_short xs w p stop n at h f) ∙ e))
        | inr f ↦ let b = then_both _ _ (sym (lists_go xs w p stop n at h f) ∙ e) in (f, b.0, b.1)
      ]

  pub lists_at : (n at : ℕ) → lists xs w p stop n at ≡ None → at ≤ stop
  lists_at zero at e =
      elim (cases_eq at stop) [ inl f ↦ omega arith | inr f ↦ absurd (no_fault (8, at) (sym (lists_over xs w p stop at f) ∙ e)) ]
  lists_at (suc n) at e = let s = lists_step (suc n) at (omega arith) e in omega (arith, s.0)
