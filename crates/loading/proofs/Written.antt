-- A reader that stands before the rows of a circuit has just those rows.
use Rattle.std.proofs.Common.{◌≡◌, ℕ, ◌^◌, ◌<◌, ◌≤◌, List, [], ◌∷◌, ◌++◌, length, drop, sym, refl, ap, ◌∙◌, arith, length-append, length-drop}
use Rattle.std.specs.List.{AllByRecursion}
use Rattle.std.proofs.ByRecursion.{All-weaker}
use Rattle.frames.proofs.Bytes.{Rest, skip, four, eight, whole, length_little}
use Rattle.constraints.specs.declared.item.Item.{Item}
use Rattle.constraints.specs.declared.reader.RowReader.{RowReader}
use Rattle.constraints.specs.Circuit.{Line, item_bytes, row_bytes, Below, Small}
use Rattle.constraints.specs.Reader.{after_row, Ahead}
use Rattle.constraints.proofs.Handed.{length_items, row_there, left_of}
use Rattle.loading.specs.Rows.{items_of, line_at, lines, rows_ahead}
use Rattle.loading.proofs.Items.{items_none, items_more}
use Rattle.loading.proofs.Lines.{lines_go, lines_none}

items_written : (is : List Item) → Small is → items_of (item_bytes is) ≡ is
unfolding item_bytes
items_written [] a = items_none [] (omega arith)
items_written (i ∷ is) a =
    let xs = item_bytes (i ∷ is) in
    let r = whole xs in
    let r4 = skip xs 0 4 _ _ (length_little 4 i.wire) r in
    let r12 : Rest xs 12 (item_bytes is) = skip xs 4 8 _ _ (length_little 8 i.coefficient) r4 in
    let long : 12 ≤ length xs = omega (arith, length_items (i ∷ is)) in
    items_more xs (item_bytes is) i long (sym (four xs 0 i.wire _ a.0.0 r)) (sym (eight xs 4 i.coefficient _ a.0.1 r4)) (sym r12.here)
    ∙ ap (λ js. i ∷ js) (items_written is a.1)

module _ (w p : ℕ) (wide : w < 2 ^ 32) (small : p < 2 ^ 64) where
  abbrev AllBelow : List Line → Type 0
  AllBelow ls = AllByRecursion (λ l. Below w p l.a × Below w p l.b × Below w p l.c) ls

  below_small : (is : List Item) → Below w p is → Small is
  below_small is b = All-weaker _ _ (λ i h. (omega (arith, h.0, wide), omega (arith, h.1, small))) is b.1

  lines_written : (xs : List ℕ) (ls : List Line) (stop at : ℕ) (zs : List ℕ) → AllBelow ls → Rest xs at (row_bytes ls ++ zs) → Rest xs stop zs
      → lines xs stop (length ls) at ≡ ls
  lines_written xs [] stop at zs a r e = lines_none xs stop at
  lines_written xs (l ∷ ls) stop at zs a r e =
      let t = row_there xs l ls at zs (a.0.0.0, a.0.1.0, a.0.2.0) r in
      let z = length-append (row_bytes ls) zs in
      let inside : after_row xs at ≤ stop = omega (arith, t.3.size, e.size, z) in
      let within : stop ≤ length xs = omega (arith, e.size) in
      let la = ap items_of t.0 ∙ items_written l.a (below_small l.a a.0.0) in
      let lb = ap items_of t.1 ∙ items_written l.b (below_small l.b a.0.1) in
      let lc = ap items_of t.2 ∙ items_written l.c (below_small l.c a.0.2) in
      let same : line_at xs at ≡ l = λ i. record { a = la i; b = lb i; c = lc i } in
      lines_go xs stop (length ls) at inside within
      ∙ ap (λ x. x ∷ lines xs stop (length ls) (after_row xs at)) same
      ∙ ap (λ x. l ∷ x) (lines_written xs ls stop (after_row xs at) zs a.1 t.3 e)

  pub rows_written : (s : RowReader) (ls : List Line) → AllBelow ls → Ahead s ls → rows_ahead s ≡ ls
  rows_written s ls a h =
      let xs = s.bytes.now in
      let end : Rest xs s.stop (drop s.stop xs) = record { here = refl; size = simp length-drop (omega (arith, h.within)) } in
      ap (λ n. lines xs s.stop n s.at) h.left ∙ lines_written xs ls s.stop s.at (drop s.stop xs) a (left_of s ls h) end
