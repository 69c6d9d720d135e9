-- The numbers of a square program: n is k times the stride.
use Rattle.std.proofs.Common.{◌≡◌, ℕ, ◌+◌, ◌-◌, ◌*◌, ◌/◌, ◌^◌, ◌<◌, ◌≤◌, sym, ap, ◌∙◌, arith, pow_pos, pow-add}
use native.Mathlib.Nat.{mul-div_cancel_left}
use native.Mathlib.Decide.{dec_lt}
use lib.Pow.{pow-lt}
use Rattle.sheet.specs.Shape.{Shape, log_k, k, log_of_n, n, stride}

-- what every head keeps
pub record Fits (S : Shape) : Type 0 where
  pub some_public : 1 ≤ S.l
  pub public_wires : S.l ≤ S.m
  pub public_rows : 2 * S.l ≤ k S
  pub all_rows : k S + 2 * S.N ≤ n S

pub exponent_order : (d e : ℕ) → 2 ^ d ≤ 2 ^ e → d ≤ e
exponent_order d e h =
    elim (dec_lt e d) [
      | yes l ↦ let less : 2 ^ e < 2 ^ d = pow-lt l in absurd (omega arith)
      | no l ↦ omega arith
    ]

module _ (S : Shape) (fits : Fits S) where
  pub log_stride : ℕ
  log_stride = log_of_n S - log_k S

  pub log_whole : log_k S + log_stride ≡ log_of_n S
  unfolding log_stride
  log_whole = let less : log_k S ≤ log_of_n S = exponent_order (log_k S) (log_of_n S) (omega arith) in omega arith

  n_split : n S ≡ k S * 2 ^ log_stride
  n_split = ap (λ t. 2 ^ t) (sym log_whole) ∙ pow-add 2 (log_k S) log_stride

  pub stride_is : stride S ≡ 2 ^ log_stride
  stride_is = ap (λ t. t / k S) n_split ∙ mul-div_cancel_left (2 ^ log_stride) (pow_pos (log_k S))

  pub stride_pos : 0 < stride S
  stride_pos = rw stride_is (pow_pos log_stride)

  pub stride_whole : k S * stride S ≡ n S
  stride_whole = ap (λ t. k S * t) stride_is ∙ sym n_split
