-- What is chosen by a decision, and what stands at an even or an odd place.
use Rattle.std.proofs.Common.{◌≡◌, ℕ, ◌+◌, ◌*◌, ◌/◌, ◌%◌, ◌<◌, refl, ap, ◌∙◌, arith}
use native.Mathlib.Decide.{ℕ_discrete}
use Rattle.square.specs.Rows.{when◌then◌else◌}
use Rattle.square.specs.Program.{by_turns}

pub if_yes : {P X : Type 0} (d : Dec P) (x y : X) → P → (when d then x else y) ≡ x
if_yes (yes _) x y p = refl
if_yes (no h) x y p = absurd (h p)

pub if_no : {P X : Type 0} (d : Dec P) (x y : X) → ¬ P → (when d then x else y) ≡ y
if_no (yes p) x y h = absurd (h p)
if_no (no _) x y h = refl

-- what holds of either branch holds of the choice
pub if_cases : {P X : Type 0} (G : X → Type 0) (d : Dec P) (x y : X) → (P → G x) → (¬ P → G y) → G (when d then x else y)
if_cases G (yes p) x y f g = f p
if_cases G (no h) x y f g = g h

module _ {X : Type 0} (f g : ℕ → X) where
  pub turn_even : (j : ℕ) → by_turns f g (2 * j) ≡ f j
  unfolding by_turns
  turn_even j =
      let rest : 2 * j % 2 ≡ 0 = omega arith in
      let whole : 2 * j / 2 ≡ j = omega arith in
      if_yes (ℕ_discrete (2 * j % 2) 0) (f (2 * j / 2)) (g (2 * j / 2)) rest ∙ ap f whole

  pub turn_odd : (j : ℕ) → by_turns f g (2 * j + 1) ≡ g j
  unfolding by_turns
  turn_odd j =
      let whole : (2 * j + 1) / 2 ≡ j = omega arith in
      if_no (ℕ_discrete ((2 * j + 1) % 2) 0) (f ((2 * j + 1) / 2)) (g ((2 * j + 1) / 2)) (λ z. omega arith) ∙ ap g whole

  -- what holds of f and g below c holds of their turns below 2 c
  pub turn_cases : (G : X → Type 0) (c t : ℕ) → t < 2 * c → ((j : ℕ) → j < c → G (f j)) → ((j : ℕ) → j < c → G (g j)) → G (by_turns f g t)
  unfolding by_turns
  turn_cases G c t h even odd =
      if_cases G (ℕ_discrete (t % 2) 0) (f (t / 2)) (g (t / 2)) (λ _. even (t / 2) (omega arith)) (λ _. odd (t / 2) (omega arith))
