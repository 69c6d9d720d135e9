-- Numbers written one behind the other.
use Rattle.std.proofs.Common.{◌≡◌, ℕ, ◌+◌, ◌*◌, ◌<◌, ◌≤◌, List, [], ◌∷◌, ◌++◌, map, length, get_or, take, drop, sym, refl, ap, ◌∙◌, append-nil, append_assoc, arith, length-append, length-drop, length-take-le}
use lib.ListN.{length-map}
use Rattle.std.specs.List.{AllByRecursion}
use Rattle.std.proofs.ByRecursion.{All-append}
use Rattle.std.proofs.lemmas.List.{take_more, take_all, map-append}
use Rattle.field.specs.Operations.{Operations, ones}
use Rattle.frames.specs.Little.{little}
use Rattle.frames.proofs.Bytes.{length_little}
use Rattle.writing.specs.declared.writer.Writer.{Writer}
use Rattle.writing.specs.Written.{written, rest, Appends, Writes}
use Rattle.writing.proofs.Writers.{appends_none, appends_both, appends_same, appends_all}
use Rattle.assignments.specs.Assignment.{value_bytes}

pub length_value_bytes : (vs : List ℕ) → length (value_bytes vs) ≡ 8 * length vs
unfolding value_bytes
length_value_bytes [] = refl
length_value_bytes (v ∷ vs) = omega (arith, length-append (little 8 v) (value_bytes vs), length_little 8 v, length_value_bytes vs)

value_bytes_push : (vs : List ℕ) (v : ℕ) → value_bytes (vs ++ v ∷ []) ≡ value_bytes vs ++ little 8 v
unfolding value_bytes
value_bytes_push [] v = append-nil (little 8 v)
value_bytes_push (w ∷ vs) v = rw (value_bytes_push vs v) (simp append_assoc)

module _ {F : Type 0} (O : Operations F) (p : ℕ) where
  -- the numbers of these elements are written
  abbrev pub Numbered : List F → (old new : Writer) → Type 0
  Numbered xs old new = (ns : List ℕ) × (xs ≡ map (ones O) ns) × AllByRecursion (λ v. v < p) ns × Appends old (value_bytes ns) new

  pub numbered_none : (w : Writer) → Numbered [] w w
  unfolding value_bytes
  numbered_none w = ([], refl, tt, appends_none w)

  pub numbered_more : (xs : List F) (i : ℕ) (x : F) (v : ℕ) (old mid new : Writer) → i < length xs → x ≡ get_or xs i x → v < p → x ≡ ones O v
      → 8 * length xs ≤ length (rest old) → Numbered (take i xs) old mid → Writes mid (little 8 v) new → Numbered (take (i + 1) xs) old new
  numbered_more xs i x v old mid new less is below number room (ns, same, all, there) last =
      let count : length ns ≡ i = sym (length-map ns (ones O)) ∙ ap length (sym same) ∙ length-take-le i xs (omega arith) in
      let size : length (value_bytes ns) ≡ 8 * i = length_value_bytes ns ∙ ap (λ k. 8 * k) count in
      let left = ap length there.behind ∙ length-drop (length (value_bytes ns)) (rest old) in
      let fits : length (little 8 v) ≤ length (rest mid) = omega (arith, length_little 8 v, left, size) in (
        ns ++ v ∷ [],
        take_more xs i x less ∙ ap (λ y. take i xs ++ y ∷ []) (sym is ∙ number) ∙ ap (λ l. l ++ ones O v ∷ []) same ∙ sym (map-append (ones O) ns (v ∷ [])),
        All-append (λ u. u < p) ns (v ∷ []) all (below, tt),
        appends_same old new _ _ (sym (value_bytes_push ns v)) (appends_both old mid new (value_bytes ns) (little 8 v) there (last.0 fits)),
      )

  pub numbered_all : (xs : List F) (i : ℕ) (old new : Writer) → length xs ≤ i → Numbered (take i xs) old new → Numbered xs old new
  numbered_all xs i old new h p = rw (take_all i xs h) at p

-- from a fresh writer on: the numbers, and what stood behind them in the buffer
pub from_front : (x y : Writer) (ns old : List ℕ) → written x ≡ [] → rest x ≡ old → Appends x (value_bytes ns) y → y.buffer.now ≡ value_bytes ns ++ drop (8 * length ns) old
from_front x y ns old e r a = appends_all x y (value_bytes ns) old e r a ∙ ap (λ k. value_bytes ns ++ drop k old) (length_value_bytes ns)
