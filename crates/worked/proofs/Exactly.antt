-- A quotient and a public polynomial of a sheet over the field of 97, and no other, from numbers that the checker computes.
use Rattle.std.proofs.Common.{◌≡◌, ℕ, ◌+◌, ◌-◌, ◌*◌, ◌%◌, ◌≤◌, List, length, sym, ap, ◌∙◌, subst}
use Rattle.field.specs.Operations.{power, ones}
use Rattle.modular.specs.Field97.{F97, ops97}
use Rattle.modular.proofs.Laws97.{laws97}
use Rattle.transform.specs.Polynomial.{table, coefficient, value_at, product_at, Root, Takes, Quotient}
use Rattle.transform.proofs.Polynomials.{takes_unique, values_quotient}
use Rattle.transform.proofs.Roots.{root_power}
use Rattle.transform.proofs.Whole.{theory}
use Rattle.sheet.specs.Shape.{Shape, log_k, k, log_of_n, n, stride}
use Rattle.square.specs.Program.{u_row, w_row}
use Rattle.square.specs.Polynomials.{ω, QuotientOf, PublicOf}
use Rattle.square.proofs.Fits.{Fits, log_stride, log_whole, stride_is}
use Rattle.square.proofs.Pairs.{quotient_unique}
use Rattle.worked.specs.Worked.{Exactly}
use Rattle.worked.proofs.Computed.{values, by_values, each}

-- what a polynomial takes at the first powers of a point
abbrev pub at_powers : ℕ → F97 → List F97 → List F97
at_powers size point c = table size (λ r. value_at ops97 c (power ops97 point r))

takes : (size : ℕ) (point : F97) (y : ℕ → F97) (c : List F97) → length c ≡ size → values (at_powers size point c) ≡ values (table size y) → Takes ops97 size point y c
takes size point y c long same = record { size = long; values = each size _ y same }

module _ (S : Shape) (fits : Fits S) (has_root : log_of_n S ≤ ops97.adicity) (c : (matrix row wire : ℕ) → F97) where
  ω_root : Root ops97 (log_of_n S) (ω ops97 S)
  ω_root = (theory laws97).roots (log_of_n S) has_root

  -- u and w are the polynomials of the two sides, and h the upper part of u²
  module _ (z u w h : List F97) (u_size : length u ≡ n S) (w_size : length w ≡ n S)
      (left : values (at_powers (n S) (ω ops97 S) u) ≡ values (table (n S) (u_row ops97 S c (coefficient ops97 z))))
      (right : values (at_powers (n S) (ω ops97 S) w) ≡ values (table (n S) (w_row ops97 S c (coefficient ops97 z))))
      (squares : values (table (n S) (λ r. ops97.mul (value_at ops97 u (power ops97 (ω ops97 S) r)) (value_at ops97 u (power ops97 (ω ops97 S) r)))) ≡ values (at_powers (n S) (ω ops97 S) w))
      (upper : values (table (n S - 1) (λ j. product_at ops97 u u (n S + j))) ≡ values h) where
    quotient : QuotientOf ops97 S c z h
    quotient =
        record {
          u = u;
          w = w;
          u_takes = takes (n S) (ω ops97 S) _ u u_size left;
          w_takes = takes (n S) (ω ops97 S) _ w w_size right;
          divides = subst (Quotient ops97 (n S) u w) (by_values _ _ upper)
              (values_quotient laws97 (log_of_n S) (ω ops97 S) ω_root u w u_size w_size (each (n S) _ _ squares));
        }

    pub quotient_exactly : Exactly (QuotientOf ops97 S c z) h
    quotient_exactly = (quotient, λ h' q. quotient_unique laws97 S fits c ω_root z h' h q quotient)

  -- ── The public polynomial ──

  abbrev point : F97
  point = power ops97 (ω ops97 S) (stride S)

  point_root : Root ops97 (log_k S) point
  point_root =
      subst (λ t. Root ops97 (log_k S) (power ops97 (ω ops97 S) t)) (sym (stride_is S fits))
      (root_power laws97 (log_k S) (log_stride S fits) (ω ops97 S) (subst (λ t. Root ops97 t (ω ops97 S)) (sym (log_whole S fits)) ω_root))

  abbrev repeated : List F97 → List F97
  repeated p = table (n S) (λ e. ops97.mul (ops97.mul (ones ops97 (k S)) (ops97.inverse (ones ops97 (n S)))) (coefficient ops97 p (e % k S)))

  -- p is the polynomial of the public rows
  pub public_exactly : (v p q : List F97) → length p ≡ k S
      → values (at_powers (k S) point p) ≡ values (table (k S) (λ t. u_row ops97 S c (coefficient ops97 v) (t * stride S)))
      → values (repeated p) ≡ values q
      → Exactly (PublicOf ops97 S c v) q
  public_exactly v p q p_size rows is =
      let p_takes = takes (k S) point _ p p_size rows in
      let made = sym (by_values _ _ is) in (
        record { p = p; p_takes = p_takes; is = made },
        λ q' m. m.is ∙ ap repeated (takes_unique laws97 (log_k S) point point_root _ m.p p m.p_takes p_takes) ∙ sym made,
      )
