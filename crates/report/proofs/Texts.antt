-- Texts appended one after another.
use Rattle.std.proofs.Common.{◌≡◌, ℕ, ◌+◌, ◌/◌, ◌%◌, ◌^◌, ◌<◌, ◌≤◌, List, [], ◌∷◌, ◌++◌, length, decimal, sym, ap, ◌∙◌, append_assoc, append-nil, arith, length-append, length-drop}
use Rattle.std.proofs.lemmas.Fmt.{decimal_step, length-decimal-le}
use Rattle.writing.specs.declared.writer.Writer.{Writer}
use Rattle.writing.specs.Written.{rest, Writes}
use Rattle.writing.proofs.Writers.{appends_none, appends_both}
use Rattle.report.specs.Text.{Appended, each_behind, elements_text, numbers_line, elements_line}

-- what a call of `put` does, where there is room
pub append_put : {x y : Writer} {ys : List ℕ} → length ys ≤ length (rest x) → Writes x ys y → Appended x ys y
append_put h w = record { room = h; appends = w.0 h }

pub append_none : (x : Writer) → Appended x [] x
append_none x = record { room = omega arith; appends = appends_none x }

pub append_same : {x y : Writer} {ys zs : List ℕ} → ys ≡ zs → Appended x ys y → Appended x zs y
append_same e p = rw e at p

-- the room that is left
pub append_left : {x y : Writer} {ys : List ℕ} → Appended x ys y → length ys + length (rest y) ≡ length (rest x)
append_left {x} {y} {ys} p = omega (arith, p.room, ap length p.appends.behind, length-drop (length ys) (rest x))

pub append_both : {x y z : Writer} {ys zs : List ℕ} → Appended x ys y → Appended y zs z → Appended x (ys ++ zs) z
append_both {x} {y} {z} {ys} {zs} p q =
    record {
      room = omega (arith, append_left p, q.room, length-append ys zs);
      appends = appends_both x y z ys zs p.appends q.appends;
    }

-- the last digit of a number, behind the others
pub append_last : {x y z : Writer} (v : ℕ) → 10 ≤ v → v < 2 ^ 64 → Appended x (decimal (v / 10)) y → Appended y ((48 + v % 10) ∷ []) z → Appended x (decimal v) z
append_last v h f p q = append_same (sym (decimal_step v h f)) (append_both p q)

pub decimal_longer : (v : ℕ) → 10 ≤ v → v < 2 ^ 64 → length (decimal v) ≡ length (decimal (v / 10)) + 1
decimal_longer v h f = ap length (decimal_step v h f) ∙ length-append (decimal (v / 10)) ((48 + v % 10) ∷ [])

-- ── Lines ──

pub twenty_digits : (v : ℕ) → v < 2 ^ 64 → length (decimal v) ≤ 20
twenty_digits v h = length-decimal-le 20 v (omega arith) (omega arith) h

two_numbers : (word : List ℕ) (a b : ℕ) → ((word ++ (32 ∷ decimal a)) ++ (32 ∷ decimal b)) ++ (10 ∷ []) ≡ numbers_line word a b
unfolding each_behind
two_numbers word a b = simp (append_assoc, append-nil)

pub numbers_lined : {o₀ o₁ o₂ o₃ o₄ : Writer} (word : List ℕ) (a b : ℕ)
    → Appended o₀ word o₁ → Appended o₁ (32 ∷ decimal a) o₂ → Appended o₂ (32 ∷ decimal b) o₃ → Appended o₃ (10 ∷ []) o₄ → Appended o₀ (numbers_line word a b) o₄
numbers_lined word a b p q r s = append_same (two_numbers word a b) (append_both (append_both (append_both p q) r) s)

pub elements_lined : {o₀ o₁ o₂ o₃ : Writer} {word : List ℕ} (xs : List (List ℕ))
    → Appended o₀ word o₁ → Appended o₁ (elements_text xs) o₂ → Appended o₂ (10 ∷ []) o₃ → Appended o₀ (elements_line word xs) o₃
elements_lined xs p q r = append_both p (append_both q r)
