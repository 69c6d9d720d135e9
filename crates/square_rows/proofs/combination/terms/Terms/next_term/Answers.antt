use Rattle.std.proofs.Common.{◌≡◌, ℕ, ◌+◌, ◌<◌, ◌≤◌, sym, ap, ◌∙◌, arith}
use native.Mathlib.Decide.{dec_lt}
use Rattle.field.proofs.Decided.{same_true, same_false}
use Rattle.sheet.specs.Outcomes.{shape_of}
use Rattle.square.specs.Rows.{position}
use Rattle.square_rows.specs.Combined.{combined}
use Rattle.square_rows.proofs.combination.terms.Terms.next_term.Goals as goal

-- what holds up to `at` and from there on
both : {F : Type 0} (f : ℕ → F) (z : F) (from at stop : ℕ) → ((w : ℕ) → from ≤ w → w < at → f w ≡ z) → ((w : ℕ) → at ≤ w → w < stop → f w ≡ z)
    → (w : ℕ) → from ≤ w → w < stop → f w ≡ z
both f z from at stop p q w a b = elim (dec_lt w at) [ yes h ↦ p w a h | no h ↦ q w (omega arith) b ]

more : {F : Type 0} (f : ℕ → F) (z : F) (from stop : ℕ) → ((w : ℕ) → from ≤ w → w < stop → f w ≡ z) → f stop ≡ z → (w : ℕ) → from ≤ w → w < stop + 1 → f w ≡ z
more f z from stop p e w a b = elim (dec_lt w stop) [ yes h ↦ p w a h | no h ↦ let at : w ≡ stop = omega arith in ap f at ∙ e ]

pub loop-at-init : goal.loop-at-init
loop-at-init g c = (omega arith, λ w a b. absurd (omega arith))

pub loop-at-preserved : goal.loop-at-preserved
loop-at-preserved g c =
    let O = g.F.Field.ops in
    let f : ℕ → g.row.F.Denot = combined O (shape_of c.args.self.now.head.now) (position O c.args.self.now.used.now) c.args.self.now.combination.now in
    let zero = same_true O _ _ _ c.same.ensures c.if-not-same.false in (
      omega (arith, c.wire_after-wire.ensures.within),
      more f O.zero c.args.self.now.from c.wire_after-wire.result
          (both f O.zero c.args.self.now.from c.loop-at.at c.wire_after-wire.result c.loop-at.invariant.1 c.wire_after-wire.ensures.passed)
          (sym c.coefficient-coefficient.ensures ∙ zero ∙ c.zero.ensures),
    )

pub returns-then-wire-stop : goal.returns-then-wire-stop
returns-then-wire-stop g c =
    let O = g.F.Field.ops in
    let f : ℕ → g.row.F.Denot = combined O (shape_of c.args.self.now.head.now) (position O c.args.self.now.used.now) c.args.self.now.combination.now in
    λ w a b. both f O.zero c.args.self.now.from c.loop-at.at c.wire_after-wire.result c.loop-at.invariant.1 c.wire_after-wire.ensures.passed w a (omega arith)

pub returns-then-not-same : goal.returns-then-not-same
returns-then-not-same g c =
    let O = g.F.Field.ops in
    let f : ℕ → g.row.F.Denot = combined O (shape_of c.args.self.now.head.now) (position O c.args.self.now.used.now) c.args.self.now.combination.now in
    let other = same_false O _ _ _ c.same.ensures c.if-not-same.true in (
      omega (arith, c.wire_after-wire.ensures.within),
      omega (arith, c.wire_after-wire.ensures.within),
      c.coefficient-coefficient.ensures,
      (λ e. other (e ∙ sym c.zero.ensures)),
      both f O.zero c.args.self.now.from c.loop-at.at c.wire_after-wire.result c.loop-at.invariant.1 c.wire_after-wire.ensures.passed,
    )

pub returns : goal.returns
returns g c = λ w a b. c.loop-at.invariant.1 w a (omega arith)
