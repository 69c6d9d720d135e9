-- The numbers of a head are those of its shape.
use Rattle.std.proofs.Common.{◌≡◌, ℕ, ◌+◌, ◌*◌, ◌^◌, ap, ◌∙◌, arith}
use Rattle.sheet.specs.Shape.{Shape, log_up, k, log_of_n, n, columns}
use Rattle.sheet.specs.Outcomes.{shape_of, Numbers}
use Rattle.sheet.specs.declared.head.Head.{Head}
use Rattle.square.proofs.Fits.{Fits}

pub shape_same : (h : Head) (S : Shape) (used : ℕ) → Numbers h S used → shape_of h ≡ S
shape_same h S used numbers i = record { m = numbers.wires i; l = numbers.publics i; N = numbers.rows i }

module _ (h : Head) where
  pub k_same : h.k ≡ k (shape_of h)
  k_same = h.k_is

  pub log_of_n_same : h.log_n ≡ log_of_n (shape_of h)
  log_of_n_same = h.log_n_is ∙ ap (λ t. log_up (t + 2 * h.rows)) k_same

  pub n_same : h.n ≡ n (shape_of h)
  n_same = h.n_is ∙ ap (λ t. 2 ^ t) log_of_n_same

  pub columns_same : h.columns ≡ columns (shape_of h)
  columns_same = h.columns_is

  pub head_fits : Fits (shape_of h)
  head_fits =
      let k_is : h.k ≡ k (shape_of h) = k_same in
      let n_is : h.n ≡ n (shape_of h) = n_same in
      record {
        some_public = h.publics_some;
        public_wires = h.publics_within;
        public_rows = omega arith;
        all_rows = omega arith;
      }
