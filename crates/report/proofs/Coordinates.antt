-- The text of elements, one coordinate and one element after another.
use Rattle.std.proofs.Common.{◌≡◌, ℕ, ◌+◌, ◌*◌, ◌^◌, ◌<◌, ◌≤◌, min, List, [], ◌∷◌, ◌++◌, map, length, get_or, take, decimal, sym, refl, ap, ◌∙◌, append_assoc, append-nil, mul-le-mul_left, mul-one, mul-add, arith, length-take-le}
use mathlib.Core.List.{map-append}
use Rattle.std.proofs.lemmas.List.{take_more, take_all}
use Rattle.std.proofs.lemmas.Nat.{pow_pos}
use Rattle.std.proofs.lemmas.Fmt.{length-decimal-le}
use Rattle.writing.specs.declared.writer.Writer.{Writer}
use Rattle.report.specs.Text.{Appended, each_behind, element_text, elements_text, piece}
use Rattle.report.proofs.Texts.{append_none, append_both}

pub five_digits : (c : ℕ) → c < 2 ^ 16 → length (decimal c) ≤ 5
five_digits c h = length-decimal-le 5 c (omega arith) (omega arith) (omega arith)

behind_push : (byte : ℕ) (vs : List ℕ) (v : ℕ) → each_behind byte (vs ++ (v ∷ [])) ≡ each_behind byte vs ++ (byte ∷ decimal v)
unfolding each_behind
behind_push byte [] v = ap (λ x. byte ∷ x) (append-nil (decimal v))
behind_push byte (w ∷ vs) v = ap (λ x. byte ∷ x) (ap (λ x. decimal w ++ x) (behind_push byte vs v) ∙ sym (append_assoc (decimal w) (each_behind byte vs) (byte ∷ decimal v)))

element_push : (vs : List ℕ) (v : ℕ) → element_text (vs ++ (v ∷ [])) ≡ element_text vs ++ piece (length vs) v
unfolding element_text each_behind
element_push [] v = append-nil (decimal v)
element_push (w ∷ vs) v = ap (λ x. decimal w ++ x) (behind_push 44 vs v) ∙ sym (append_assoc (decimal w) (each_behind 44 vs) (44 ∷ decimal v))

pub element_more : (cs : List ℕ) (i : ℕ) → i < length cs → element_text (take (i + 1) cs) ≡ element_text (take i cs) ++ piece i (get_or cs i 0)
element_more cs i h =
    ap element_text (take_more cs i 0 h)
    ∙ element_push (take i cs) (get_or cs i 0)
    ∙ ap (λ n. element_text (take i cs) ++ piece n (get_or cs i 0)) (length-take-le i cs (omega arith))

pub element_none : element_text [] ≡ []
unfolding element_text
element_none = refl

elements_push : (xs : List (List ℕ)) (x : List ℕ) → elements_text (xs ++ (x ∷ [])) ≡ elements_text xs ++ (32 ∷ element_text x)
unfolding elements_text
elements_push [] x = ap (λ t. 32 ∷ t) (append-nil (element_text x))
elements_push (y ∷ xs) x =
    ap (λ t. 32 ∷ t) (ap (λ t. element_text y ++ t) (elements_push xs x) ∙ sym (append_assoc (element_text y) (elements_text xs) (32 ∷ element_text x)))

pub elements_none : elements_text [] ≡ []
unfolding elements_text
elements_none = refl

pub elements_more : {F : Type 0} (f : F → List ℕ) (xs : List F) (i : ℕ) (x : F) → i < length xs → x ≡ get_or xs i x
    → elements_text (map f (take (i + 1) xs)) ≡ elements_text (map f (take i xs)) ++ (32 ∷ element_text (f x))
elements_more f xs i x h e =
    ap (λ t. elements_text (map f t)) (take_more xs i x h)
    ∙ ap elements_text (map-append f (take i xs) (get_or xs i x ∷ []))
    ∙ elements_push (map f (take i xs)) (f (get_or xs i x))
    ∙ ap (λ y. elements_text (map f (take i xs)) ++ (32 ∷ element_text (f y))) (sym e)

pub width_few : (w a : ℕ) → w * min (2 ^ a) 2048 ≤ 2048 → w ≤ 2048
width_few w a narrow =
    let some : 1 ≤ min (2 ^ a) 2048 = omega (arith, pow_pos a) in
    omega (arith, mul-le-mul_left w some, mul-one w)

-- room for one more of n texts of so many bytes
pub one_more : (w i n : ℕ) → i < n → w * i + w ≤ w * n
one_more w i n h =
    let le : w * (i + 1) ≤ w * n = mul-le-mul_left w (omega arith) in
    omega (arith, mul-add w i 1, mul-one w)

pub next : (w i : ℕ) → w * (i + 1) ≡ w * i + w
next w i = mul-add w i 1 ∙ ap (λ t. w * i + t) (mul-one w)

-- ── As the loops append them ──

pub element_start : (x : Writer) → Appended x (element_text []) x
element_start x = rw element_none (append_none x)

pub element_step : {x y z : Writer} (cs : List ℕ) (i v : ℕ) → i < length cs → v ≡ get_or cs i 0
    → Appended x (element_text (take i cs)) y → Appended y (piece i v) z → Appended x (element_text (take (i + 1) cs)) z
element_step cs i v h e p q = rw (element_more cs i h) (append_both p (rw e at q))

pub element_end : {x y : Writer} (cs : List ℕ) (i : ℕ) → length cs ≤ i → Appended x (element_text (take i cs)) y → Appended x (element_text cs) y
element_end cs i h p = rw (take_all i cs h) at p

pub elements_start : (x : Writer) → Appended x (elements_text []) x
elements_start x = rw elements_none (append_none x)

module _ {F : Type 0} (f : F → List ℕ) (xs : List F) where
  pub elements_step : {w x y z : Writer} (i : ℕ) (e : F) → i < length xs → e ≡ get_or xs i e
      → Appended w (elements_text (map f (take i xs))) x → Appended x (32 ∷ []) y → Appended y (element_text (f e)) z
      → Appended w (elements_text (map f (take (i + 1) xs))) z
  elements_step i e h is p q r = rw (elements_more f xs i e h is) (append_both p (append_both q r))

  pub elements_end : {x y : Writer} (i : ℕ) → length xs ≤ i → Appended x (elements_text (map f (take i xs))) y → Appended x (elements_text (map f xs)) y
  elements_end i h p = rw (take_all i xs h) at p
