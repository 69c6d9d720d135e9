-- The outcome of a sheet that stands for a model, and its text.
use Rattle.std.proofs.Common.{◌≡◌, ℕ, ◌+◌, ◌-◌, ◌*◌, ◌^◌, ◌≤◌, min, true, List, ◌++◌, map, length, Ok, Err, codes, refl, ap, ◌∙◌, ap₂, inl, inr, arith, mul-le-mul_left}
use Rattle.std.proofs.Math.Nat.{pow-le-pow_right}
use Rattle.refusal.specs.Numbers.{number_of}
use Rattle.refusal.specs.declared.refused.Refused.{Refused}
use Rattle.field.specs.Operations.{Operations}
use Rattle.field.specs.Laws.{Laws}
use Rattle.transform.specs.Polynomial.{coefficient}
use Rattle.sheet.specs.Shape.{n, k, columns}
use Rattle.sheet.specs.Outcomes.{Answer, shape_of}
use Rattle.sheet.specs.Model.{Model, Sheet, Stands}
use Rattle.sheet.specs.declared.head.Head.{Head}
use Rattle.square.specs.Rules.{all_inside}
use Rattle.square.specs.Outcomes.{Divided, Published}
use Rattle.square.proofs.Heads.{shape_same, n_same, k_same, columns_same}
use Rattle.runs.proofs.Reading.{public_reads}
use Rattle.solving.proofs.Solve.{quotient_is, fails_at}
use Rattle.writing.specs.declared.writer.Writer.{Writer}
use Rattle.report.specs.Text.{Appended, elements_line}
use Rattle.report.specs.Outcome.{failing, solved, sheet_lines, refused_line, render, Renders, Answered}
use Rattle.report.proofs.Texts.{append_same, append_both}

module _ {F : Type 0} {O : Operations F} (L : Laws O) (coordinates : F → List ℕ) (prime doublings : ℕ) (b : Model F) (s : Sheet F) (stands : Stands O s b)
    (one : coefficient O b.values 0 ≡ O.one) (within : all_inside b.shape b.entries ≡ true) where
  -- the head's numbers are the model's
  same : shape_of s.head ≡ b.shape
  same = shape_same s.head b.shape (length b.entries) stands.numbers

  rows : s.head.n ≡ n b.shape
  rows = n_same s.head ∙ ap n same

  multiples : s.head.k ≡ k b.shape
  multiples = k_same s.head ∙ ap k same

  wide : s.head.columns ≡ columns b.shape
  wide = columns_same s.head ∙ ap columns same

  numbers : sheet_lines prime doublings s.head.n s.head.k ≡ sheet_lines prime doublings (n b.shape) (k b.shape)
  numbers = ap₂ (sheet_lines prime doublings) rows multiples

  module _ (x y z : Writer) (first : Appended x (sheet_lines prime doublings s.head.n s.head.k) y)
      (h₀ h : List F) (work : ℕ) (h_size : length h₀ ≡ s.head.n - 1) (work_size : work ≡ s.head.columns + 4 * s.head.n) where
    abbrev Reported : Type 0
    Reported = Renders (Answered O coordinates prime doublings b) x z

    h_right : length h₀ ≡ n b.shape - 1
    h_right = h_size ∙ ap (λ x. x - 1) rows

    work_right : work ≡ columns b.shape + 4 * n b.shape
    work_right = work_size ∙ ap₂ (λ x y. x + 4 * y) wide rows

    pub tells_solved : (p₀ p : List F) (r : Answer) → length p₀ ≡ s.head.n
        → Divided O s.head s.entries s.values h₀ work (Ok tt) h → Published O s.head s.values p₀ r p
        → Appended y (elements_line (codes "quotient") (map coordinates h) ++ elements_line (codes "public") (map coordinates p)) z
        → Reported
    tells_solved p₀ p r p_size divides publishes rest =
        let public = public_reads L b s stands one within p₀ p r (p_size ∙ rows) publishes in (
          solved prime doublings (n b.shape) (k b.shape) (map coordinates h) (map coordinates p),
          inl (h, p, quotient_is L b s stands one within h₀ h work h_right work_right divides, public.1, refl),
          unfold render in append_both (append_same numbers first) rest,
        )

    pub tells_failing : (e : Refused) → Divided O s.head s.entries s.values h₀ work (Err e) h → Appended y (refused_line (number_of e.reason) e.at) z → Reported
    tells_failing e divides rest =
        let fails = fails_at L b s stands one within h₀ h work h_right work_right e divides in (
          failing prime doublings (n b.shape) (k b.shape) e.at,
          inr (e.at, fails.1, refl),
          unfold render in append_both (append_same numbers first) (append_same (ap (λ x. refused_line x e.at) fails.0) rest),
        )

-- a polynomial over a subgroup of the field has not too many coordinates
pub narrow_enough : (w a m : ℕ) (h : Head) → w * min (2 ^ a) 2048 ≤ 2048 → h.log_n ≤ a → m ≡ h.n → w * m ≤ 2048
narrow_enough w a m h narrow root e =
    let power : 2 ^ h.log_n ≤ 2 ^ a = pow-le-pow_right {n = 2} (omega arith) root in
    let few : m ≤ min (2 ^ a) 2048 = omega (arith, h.n_is, h.n_most) in
    omega (arith, narrow, mul-le-mul_left w few)
