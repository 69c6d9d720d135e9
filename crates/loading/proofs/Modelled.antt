-- Entries that lie within a sheet, and have room, are all taken by the model.
use Rattle.std.proofs.Common.{◌≡◌, ℕ, ◌+◌, ◌<◌, ◌≤◌, true, List, [], ◌∷◌, ◌++◌, map, length, None, sym, refl, ap, ◌∙◌, append_assoc, append-nil, arith, length-append, lt-ltb}
use lib.ListN.{length-map}
use Rattle.std.specs.List.{AllByRecursion}
use Rattle.std.proofs.ByRecursion.{All-append, All-map, All-weaker}
use Rattle.std.proofs.lemmas.List.{length_push}
use Rattle.std.proofs.lemmas.Bool.{and_from}
use Rattle.refusal.specs.Due.{Due}
use Rattle.field.specs.Operations.{Operations}
use Rattle.sheet.specs.Shape.{Shape}
use Rattle.sheet.specs.Rules.{table_size, inside, enter_due}
use Rattle.sheet.specs.Model.{Model, with_entry, after, after_all}
use Rattle.sheet.specs.declared.entry.Entry.{Entry}
use Rattle.constraints.specs.declared.item.Item.{Item}
use Rattle.constraints.specs.Circuit.{Line, Below}
use Rattle.loading.specs.Rows.{item_count}
use Rattle.loading.specs.Entries.{below, line_below, list_entries, line_entries, entries_from, enter_call}

abbrev Inside : {F : Type 0} → Shape → Entry F → Type 0
Inside S e = inside S e.matrix e.row e.wire ≡ true

abbrev with_all : {F : Type 0} → Model F → List (Entry F) → Model F
with_all b ns = record { shape = b.shape; entries = b.entries ++ ns; values = b.values }

module _ {F : Type 0} (O : Operations F) where
  taken : (b : Model F) (e : Entry F) → Inside b.shape e → length b.entries < table_size → after b (enter_call e) ≡ with_all b (e ∷ [])
  taken b e i room =
      let due : enter_due b.shape (length b.entries) table_size e.matrix e.row e.wire ≡ None = rw (i, lt-ltb (length b.entries) table_size room) in
      ap (λ (d : Due). with_entry d e b) due

  pub all_taken : (ns : List (Entry F)) (b : Model F) → AllByRecursion (Inside b.shape) ns → length b.entries + length ns ≤ table_size
      → after_all b (map enter_call ns) ≡ with_all b ns
  all_taken [] b a room = λ i. record { shape = b.shape; entries = sym (append-nil b.entries) i; values = b.values }
  all_taken (e ∷ ns) b a room =
      let more = length_push b.entries e in
      ap (λ (m : Model F). after_all m (map enter_call ns)) (taken b e a.0 (omega arith))
      ∙ all_taken ns (with_all b (e ∷ [])) a.1 (omega (arith, more))
      ∙ (λ i. record { shape = b.shape; entries = append_assoc b.entries (e ∷ []) ns i; values = b.values })

  -- as many entries as items
  pub entries_count : (row : ℕ) (ls : List Line) → length (entries_from O row ls) ≡ item_count ls
  entries_count row [] = refl
  entries_count row (l ∷ ls) = simp (length-append, length-map) (omega (arith, entries_count (row + 1) ls))

  module _ (S : Shape) (w p : ℕ) (wires : S.m ≡ w) where
    list_inside : (matrix row : ℕ) (is : List Item) → matrix < 3 → row < S.N → Below w p is → AllByRecursion (Inside S) (list_entries O matrix row is)
    list_inside matrix row is m r b =
        All-map (Inside S) _ is
        (All-weaker _ _ (λ i h. and_from _ _ (lt-ltb matrix 3 m) (and_from _ _ (lt-ltb row S.N r) (lt-ltb i.wire S.m (omega (arith, h.0, wires))))) is b.1)

    pub entries_inside : (row : ℕ) (ls : List Line) → row + length ls ≤ S.N → AllByRecursion (λ l. Below w p l.a × Below w p l.b × Below w p l.c) ls
        → AllByRecursion (Inside S) (entries_from O row ls)
    entries_inside row [] h a = tt
    entries_inside row (l ∷ ls) h a =
        let r : row < S.N = omega arith in
        All-append (Inside S) (line_entries O row l) _
        (All-append (Inside S) (list_entries O 0 row l.a) _ (list_inside 0 row l.a (omega arith) r a.0.0)
        (All-append (Inside S) (list_entries O 1 row l.b) _ (list_inside 1 row l.b (omega arith) r a.0.1)
        (list_inside 2 row l.c (omega arith) r a.0.2)))
        (entries_inside (row + 1) ls (omega arith) a.1)

-- nothing is passed over
below_all : (w p : ℕ) (is : List Item) → AllByRecursion (λ i. (i.wire < w) × (i.coefficient < p)) is → below p is ≡ is
below_all w p [] a = refl
below_all w p (i ∷ is) a = rw (lt-ltb i.coefficient p a.0.1) (ap (λ js. i ∷ js) (below_all w p is a.1))

pub lines_below : (w p : ℕ) (ls : List Line) → AllByRecursion (λ l. Below w p l.a × Below w p l.b × Below w p l.c) ls → map (line_below p) ls ≡ ls
lines_below w p [] a = refl
lines_below w p (l ∷ ls) a =
    let la = below_all w p l.a a.0.0.1 in
    let lb = below_all w p l.b a.0.1.1 in
    let lc = below_all w p l.c a.0.2.1 in
    let same : line_below p l ≡ l = λ i. record { a = la i; b = lb i; c = lc i } in
    ap (λ x. x ∷ map (line_below p) ls) same ∙ ap (λ xs. l ∷ xs) (lines_below w p ls a.1)
