-- Where every row holds, the upper coefficients of u² are the quotient, and nothing on the way to them is refused.
use Rattle.std.proofs.Common.{◌≡◌, ℕ, ◌+◌, ◌-◌, ◌^◌, ◌<◌, ◌≤◌, ◌&&◌, eqb, ltb, leb, List, length, None, Ok, Err, sym, ap, ◌∙◌, subst, arith, pow_pos, MatchResult}
use Rattle.std.proofs.lemmas.Bool.{and_from, eq-eqb, lt-ltb, le-leb}
use Rattle.refusal.specs.Due.{unless}
use Rattle.field.specs.Operations.{Operations, root_of_order}
use Rattle.field.specs.Laws.{Laws}
use Rattle.transform.specs.Logarithm.{log2}
use Rattle.transform.specs.Outcomes.{interpolate_due, UpperSquared}
use Rattle.transform.specs.Polynomial.{table, coefficient, product_at, Root, Takes}
use Rattle.transform.proofs.Logarithms.{log2_power}
use Rattle.transform.proofs.Tables.{length_table, get_or_table}
use Rattle.transform.proofs.Polynomials.{takes_exists, takes_ext}
use Rattle.sheet.specs.Shape.{Shape, log_of_n, n}
use Rattle.sheet.specs.Outcomes.{Answer}
use Rattle.square.specs.Rows.{failing_row}
use Rattle.square.specs.Program.{u_row, w_row, extended}
use Rattle.square.specs.Polynomials.{ω, QuotientOf}
use Rattle.square.proofs.FailingRow.{none_iff_all_hold}
use Rattle.square.proofs.Fits.{Fits}
use Rattle.square.proofs.Pairs.{extended_squares, squares_quotient}

module _ {F : Type 0} {O : Operations F} (L : Laws O) where
  -- as many values as a power of two that the field has a root for can be interpolated
  pub interpolate_none : (e : ℕ) (values out : List F) → length values ≡ 2 ^ e → length out ≡ 2 ^ e → e ≤ O.adicity → interpolate_due O values out ≡ None
  interpolate_none e values out sv so root =
      let log : log2 (length values) ≡ e = ap log2 sv ∙ log2_power e in
      ap (λ t. unless t 5 (unless (leb (log2 (length values)) O.adicity) 2 None))
      (and_from _ _ (eq-eqb (length values) (length out) (sv ∙ sym so)) (eq-eqb (length values) (2 ^ log2 (length values)) (sv ∙ ap (λ t. 2 ^ t) (sym log))))
      ∙ ap (λ t. unless t 2 None) (le-leb (log2 (length values)) O.adicity (omega arith))

  -- n coefficients have a square with n - 1 above them
  upper_granted : (u h₀ h : List F) (P : Type 0) (r : Answer) → 0 < length u → length h₀ ≡ length u - 1 → UpperSquared O u h₀ h r
      → (h ≡ table (length u - 1) (λ j. product_at O u u (length u + j)) → P) → MatchResult r (λ _. P) (λ _. ⊥)
  upper_granted u h₀ h P (Ok _) some size d f = f d.1
  upper_granted u h₀ h P (Err x) some size d f =
      let owed = d.0 in
      let none : unless (ltb 0 (length u) && eqb (length h₀) (length u - 1)) 5 None ≡ None =
      ap (λ t. unless t 5 None) (and_from _ _ (lt-ltb 0 (length u) some) (eq-eqb (length h₀) (length u - 1) size)) in
      cc

  module _ (S : Shape) (fits : Fits S) (root : Root O (log_of_n S) (ω O S)) (c : (matrix row wire : ℕ) → F) (v : ℕ → F) where
    abbrev z : List F
    z = extended O S c v

    abbrev left : ℕ → F
    left = u_row O S c (coefficient O z)

    -- sums are the rows' left sums, u takes them, and h is made of the upper coefficients of u²
    pub divides : v 0 ≡ O.one → failing_row O S c v ≡ None
        → (sums u h₀ h : List F) (r : Answer) → sums ≡ table (n S) left → length h₀ ≡ n S - 1
        → Takes O (length sums) (root_of_order O (log2 (length sums))) (coefficient O sums) u
        → UpperSquared O u h₀ h r
        → MatchResult r (λ _. QuotientOf O S c z h) (λ _. ⊥)
    divides one none sums u h₀ h r written room takes upper =
        upper_granted u h₀ h (QuotientOf O S c z h) r (omega (arith, pow_pos (log_of_n S), size)) (omega (arith, size)) upper
        (λ e. subst (QuotientOf O S c z) (ap (λ t. table (t - 1) (λ j. product_at O u u (t + j))) (sym size) ∙ sym e) quotient)
      where
        places : length sums ≡ n S
        places = ap length written ∙ length_table (n S) left

        order : root_of_order O (log2 (length sums)) ≡ ω O S
        order = ap (root_of_order O) (ap log2 places ∙ log2_power (log_of_n S))

        u_takes : Takes O (n S) (ω O S) left u
        u_takes =
            takes_ext L (n S) (ω O S) _ _ u
            (λ r h. ap (λ t. coefficient O t r) written ∙ get_or_table (n S) left O.zero r h)
            (rw (order, places) at takes)

        size : length u ≡ n S
        size = u_takes.size

        quotient : QuotientOf O S c z (table (n S - 1) (λ j. product_at O u u (n S + j)))
        quotient =
            let w = takes_exists L (log_of_n S) (ω O S) root (w_row O S c (coefficient O z)) in
            squares_quotient L S fits c root z u w.0 u_takes w.1 (extended_squares L S fits c v one ((none_iff_all_hold O S c v).0 none))
