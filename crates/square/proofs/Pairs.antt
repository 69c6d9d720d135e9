-- The pairs of a square assignment and a quotient: there is one where all product rows hold, none where one fails, and never two.
use Rattle.std.proofs.Common.{◌≡◌, ℕ, ◌+◌, ◌-◌, ◌<◌, List, length, sym, ap, ◌∙◌, subst, arith, pow_pos}
use Rattle.field.specs.Operations.{Operations}
use Rattle.field.specs.Laws.{Laws}
use Rattle.transform.specs.Polynomial.{table, coefficient, product_at, Root, Takes}
use Rattle.transform.proofs.Tables.{length_table, get_or_table, is_table}
use Rattle.transform.proofs.Polynomials.{takes_unique, quotient_upper, quotient_values, values_quotient}
use Rattle.sheet.specs.Shape.{Shape, log_of_n, n, columns}
use Rattle.square.specs.Rows.{AllHold}
use Rattle.square.specs.Program.{square, u_row, w_row, extended_at, extended}
use Rattle.square.specs.Polynomials.{ω, QuotientOf, Pair}
use Rattle.square.proofs.Fits.{Fits}
use Rattle.square.proofs.Dots.{dot_values}
use Rattle.square.proofs.Squares.{SquaresHold, squares_demand, demands_square, extended_old, extended_demands, demands_extended, holds_of, holds_at}

module _ {F : Type 0} {O : Operations F} (L : Laws O) (S : Shape) (fits : Fits S) (c : (matrix row wire : ℕ) → F) where
  open O use {zero as 𝟘, one as 𝟙}
  open S use {m}

  -- ── The extended values as a list ──

  module _ (v : ℕ → F) where
    pub extended_size : length (extended O S c v) ≡ columns S
    unfolding extended
    extended_size = length_table (columns S) _

    pub extended_reads : (w : ℕ) → w < columns S → coefficient O (extended O S c v) w ≡ extended_at O S c v w
    unfolding extended
    extended_reads w h = get_or_table (columns S) (extended_at O S c v) 𝟘 w h

    pub extended_is : (z : List F) → length z ≡ columns S → ((w : ℕ) → w < columns S → coefficient O z w ≡ extended_at O S c v w) → z ≡ extended O S c v
    unfolding extended
    extended_is z size same = is_table 𝟘 z (columns S) _ size same

    pub extended_keeps : (w : ℕ) → w < m → coefficient O (extended O S c v) w ≡ v w
    extended_keeps w h = extended_reads w (omega arith) ∙ extended_old L S fits c v w h

    -- where the product rows hold, the square rows do
    pub extended_squares : v 0 ≡ 𝟙 → AllHold O S c v → SquaresHold L S fits c (coefficient O (extended O S c v))
    extended_squares one holds r h =
        let some : 0 < m = omega arith in
        ap (square O) (dot_values L (columns S) _ _ _ extended_reads)
        ∙ demands_square L S fits c (extended_at O S c v)
        (extended_old L S fits c v 0 some ∙ one)
        (extended_demands L S fits c v)
        (holds_at L S fits c v (extended_at O S c v) (extended_old L S fits c v) holds)
        r h
        ∙ sym (dot_values L (columns S) _ _ _ extended_reads)

  -- ── Quotients ──

  module _ (root : Root O (log_of_n S) (ω O S)) where
    -- the rows of an assignment that has a quotient hold
    pub quotient_squares : (z h : List F) → QuotientOf O S c z h → SquaresHold L S fits c (coefficient O z)
    quotient_squares z h q r l =
        ap (square O) (sym (q.u_takes.values r l))
        ∙ quotient_values L (log_of_n S) (ω O S) root q.u q.w q.u_takes.size q.w_takes.size h q.divides r l
        ∙ q.w_takes.values r l

    -- and of one whose rows hold the upper coefficients of u² are a quotient
    pub squares_quotient : (z u w : List F)
        → Takes O (n S) (ω O S) (u_row O S c (coefficient O z)) u → Takes O (n S) (ω O S) (w_row O S c (coefficient O z)) w
        → SquaresHold L S fits c (coefficient O z)
        → QuotientOf O S c z (table (n S - 1) (λ j. product_at O u u (n S + j)))
    squares_quotient z u w tu tw sound =
        record {
          u = u;
          w = w;
          u_takes = tu;
          w_takes = tw;
          divides = values_quotient L (log_of_n S) (ω O S) root u w tu.size tw.size
              (λ r l. ap (square O) (tu.values r l) ∙ sound r l ∙ sym (tw.values r l));
        }

    pub quotient_unique : (z h h' : List F) → QuotientOf O S c z h → QuotientOf O S c z h' → h ≡ h'
    quotient_unique z h h' q q' =
        is h q
        ∙ ap (λ u. table (n S - 1) (λ j. product_at O u u (n S + j))) (takes_unique L (log_of_n S) (ω O S) root _ q.u q'.u q.u_takes q'.u_takes)
        ∙ sym (is h' q')
      where
        is : (h : List F) (q : QuotientOf O S c z h) → h ≡ table (n S - 1) (λ j. product_at O q.u q.u (n S + j))
        is h q = quotient_upper L (n S) (pow_pos (log_of_n S)) q.u q.w h q.w_takes.size q.divides

    -- ── Pairs ──

    module _ (v : List F) where
      -- the assignment of a pair is the extended one, and all product rows hold
      pub pair_extended : (z h : List F) → Pair O S c v z h → (z ≡ extended O S c (coefficient O v)) × AllHold O S c (coefficient O v)
      pair_extended z h p =
          let facts = squares_demand L S fits c (coefficient O z) p.one (quotient_squares z h p.quotient) in (
            extended_is (coefficient O v) z p.size (demands_extended L S fits c (coefficient O v) (coefficient O z) p.extends facts.0),
            holds_of L S fits c (coefficient O v) (coefficient O z) p.extends facts.1,
          )

      pub extended_pair : coefficient O v 0 ≡ 𝟙 → (h : List F)
          → QuotientOf O S c (extended O S c (coefficient O v)) h → Pair O S c v (extended O S c (coefficient O v)) h
      extended_pair one h q =
          let some : 0 < m = omega arith in
          record {
            size = extended_size (coefficient O v);
            one = extended_keeps (coefficient O v) 0 some ∙ one;
            extends = extended_keeps (coefficient O v);
            quotient = q;
          }

      pub pair_unique : (h z' h' : List F)
          → QuotientOf O S c (extended O S c (coefficient O v)) h → Pair O S c v z' h'
          → (z' ≡ extended O S c (coefficient O v)) × (h' ≡ h)
      pair_unique h z' h' q p =
          let is : z' ≡ extended O S c (coefficient O v) = (pair_extended z' h' p).0 in
          (is, quotient_unique _ h' h (subst (λ z. QuotientOf O S c z h') is p.quotient) q)
