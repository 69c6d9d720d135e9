-- What is answered of a sheet that stands for a model.
use Rattle.std.proofs.Common.{◌≡◌, ℕ, ◌+◌, ◌-◌, ◌*◌, ◌<◌, ◌≤◌, Bool, true, false, leb, List, ◌++◌, map, length, drop, None, Ok, Err, sym, refl, ap, ◌∙◌, subst, inl, inr}
use Rattle.std.specs.List.{AllByRecursion}
use Rattle.std.proofs.lemmas.Bool.{le-leb, lt-leb}
use Rattle.refusal.specs.Due.{unless}
use Rattle.refusal.specs.Numbers.{number_of}
use Rattle.refusal.specs.declared.reason.Refusal.TheVariants.{BufferTooShort}
use Rattle.refusal.specs.declared.refused.Refused.{Refused}
use Rattle.field.specs.Operations.{Operations, ones}
use Rattle.field.specs.Laws.{Laws}
use Rattle.transform.specs.Polynomial.{coefficient}
use Rattle.sheet.specs.Shape.{n, columns}
use Rattle.sheet.specs.Outcomes.{Answer, shape_of}
use Rattle.sheet.specs.Model.{Model, sheet, Stands}
use Rattle.sheet.specs.declared.head.Head.{Head}
use Rattle.sheet.specs.declared.entry.Entry.{Entry}
use Rattle.square.specs.Rules.{all_inside}
use Rattle.square.specs.Outcomes.{Divided}
use Rattle.square.proofs.Heads.{shape_same, n_same, columns_same}
use Rattle.assignments.specs.Assignment.{value_bytes}
use Rattle.solving.specs.Solved.{QuotientIs}
use Rattle.solving.proofs.Solve.{quotient_is, fails_at}
use Rattle.sapsheet_c.specs.Outcome.{Outcome, refused, quotient}
use Rattle.sapsheet_c.specs.Means.{RefusedOr, Solved, SolvedWithin}
use Rattle.sapsheet_c.specs.Parts.{Answers}

module _ {F : Type 0} {O : Operations F} (L : Laws O) (p : ℕ) (h : Head) (es : List (Entry F)) (vs : List F) (old : List ℕ)
    (b : Model F) (stands : Stands O (sheet h es vs) b) where
  abbrev ComesTo : (r : Answer) (new : List ℕ) → Type 0
  ComesTo = Answers (SolvedWithin O p (length old) b) old

  same : shape_of h ≡ b.shape
  same = shape_same h b.shape _ stands.numbers

  large : h.n ≡ n b.shape
  large = n_same h ∙ ap n same

  wide : h.columns ≡ columns b.shape
  wide = columns_same h ∙ ap columns same

  at : (o : Outcome) (t : Bool) → leb (8 * (n b.shape - 1)) (length old) ≡ t → RefusedOr (unless t 13 None) o (Solved O p b o) → SolvedWithin O p (length old) b o
  at o t e x = subst (λ (u : Bool). RefusedOr (unless u 13 None) o (Solved O p b o)) (sym e) x

  module _ (h₀ : List F) (h_size : length h₀ ≡ h.n - 1) where
    size : length h₀ ≡ n b.shape - 1
    size = h_size ∙ ap (λ k. k - 1) large

    pub too_short : (e : Refused) → length old < 8 * length h₀ → e.reason ≡ BufferTooShort → ComesTo (Err e) old
    too_short e less is =
        let short = lt-leb _ _ (subst (λ k. length old < 8 * k) size less) in
        (at (refused (number_of e.reason)) false short (ap (λ r. refused (number_of r)) is), refl)

    module _ (one : coefficient O b.values 0 ≡ O.one) (within : all_inside b.shape b.entries ≡ true)
        (h' : List F) (work : ℕ) (work_is : work ≡ h.columns + 4 * h.n) (room : 8 * length h₀ ≤ length old) where
      enough : leb (8 * (n b.shape - 1)) (length old) ≡ true
      enough = le-leb _ _ (subst (λ k. 8 * k ≤ length old) size room)

      places : work ≡ columns b.shape + 4 * n b.shape
      places = work_is ∙ ap (λ k. k + 4 * h.n) wide ∙ ap (λ k. columns b.shape + 4 * k) large

      pub granted : (new : List ℕ) → Divided O h es vs h₀ work (Ok tt) h'
          → (ns : List ℕ) → h' ≡ map (ones O) ns → AllByRecursion (λ v. v < p) ns → new ≡ value_bytes ns ++ drop (8 * length ns) old → ComesTo (Ok tt) new
      granted new divides ns numbers all there =
          let is = quotient_is L b (sheet h es vs) stands one within h₀ h' work size places divides in
          (ns, at (quotient ns) true enough (inl (ns, subst (λ (l : List F). QuotientIs O b l) numbers is, all, refl)), there)

      pub row_fails : (e : Refused) → Divided O h es vs h₀ work (Err e) h' → ComesTo (Err e) old
      row_fails e divides =
          let fails = fails_at L b (sheet h es vs) stands one within h₀ h' work size places e divides in
          (at (refused (number_of e.reason)) true enough (inr (e.at, fails.1, ap refused fails.0)), refl)
