-- A file encodes one circuit only.
use Rattle.std.proofs.Common.{◌≡◌, ℕ, ◌+◌, ◌^◌, ◌<◌, List, [], ◌∷◌, ◌++◌, length, sym, refl, ◌∙◌, append_assoc, add_assoc, arith}
use Rattle.std.specs.List.{AllByRecursion}
use Rattle.frames.specs.Little.{little}
use Rattle.frames.proofs.Bytes.{Rest, skip, four, eight, length_little}
use Rattle.constraints.specs.declared.item.Item.{Item}
use Rattle.constraints.specs.Opened.{beyond, header, rows_at}
use Rattle.constraints.specs.Circuit.{Line, Circuit, item_bytes, list_bytes, row_bytes, Below, Small, Encodes, OpensExactly}
use Rattle.constraints.proofs.Handed.{list_there}
use Rattle.constraints.proofs.Written.{encodes_opened, places, Says, says}
use Rattle.constraints.proofs.Back.{opened_encodes}

small_of : (w p : ℕ) → w < 2 ^ 32 → p < 2 ^ 64 → (is : List Item) → AllByRecursion (λ i. (i.wire < w) × (i.coefficient < p)) is → Small is
small_of w p a b [] h = tt
small_of w p a b (i ∷ is) h = ((omega (arith, h.0.0), omega (arith, h.0.1)), small_of w p a b is h.1)

module _ (xs : List ℕ) where
  items_same : (is js : List Item) (at : ℕ) (ys zs : List ℕ) → Small is → Small js → length is ≡ length js
      → Rest xs at (item_bytes is ++ ys) → Rest xs at (item_bytes js ++ zs) → is ≡ js
  unfolding item_bytes
  items_same [] [] at ys zs a b e r s = refl
  items_same [] (j ∷ js) at ys zs a b e r s = absurd (omega (arith, e))
  items_same (i ∷ is) [] at ys zs a b e r s = absurd (omega (arith, e))
  items_same (i ∷ is) (j ∷ js) at ys zs a b e r s =
      let q : Rest xs at (little 4 i.wire ++ (little 8 i.coefficient ++ (item_bytes is ++ ys))) = simp append_assoc at r in
      let q4 : Rest xs (at + 4) (little 8 i.coefficient ++ (item_bytes is ++ ys)) = skip xs at 4 _ _ (length_little 4 i.wire) q in
      let q12 : Rest xs (at + 12) (item_bytes is ++ ys) = rw add_assoc at (skip xs (at + 4) 8 _ _ (length_little 8 i.coefficient) q4) in
      let t : Rest xs at (little 4 j.wire ++ (little 8 j.coefficient ++ (item_bytes js ++ zs))) = simp append_assoc at s in
      let t4 : Rest xs (at + 4) (little 8 j.coefficient ++ (item_bytes js ++ zs)) = skip xs at 4 _ _ (length_little 4 j.wire) t in
      let t12 : Rest xs (at + 12) (item_bytes js ++ zs) = rw add_assoc at (skip xs (at + 4) 8 _ _ (length_little 8 j.coefficient) t4) in
      let w : i.wire ≡ j.wire = sym (four xs at i.wire _ a.0.0 q) ∙ four xs at j.wire _ b.0.0 t in
      let k : i.coefficient ≡ j.coefficient = sym (eight xs (at + 4) i.coefficient _ a.0.1 q4) ∙ eight xs (at + 4) j.coefficient _ b.0.1 t4 in
      let same : i ≡ j = λ z. record { wire = w z; coefficient = k z } in
      let more = items_same is js (at + 12) ys zs a.1 b.1 (omega (arith, e)) q12 t12 in
      λ z. same z ∷ more z

  module _ (w p : ℕ) (wide : w < 2 ^ 32) (large : p < 2 ^ 64) where
    list_same : (is js : List Item) (at : ℕ) (ys zs : List ℕ) → Below w p is → Below w p js
        → Rest xs at (list_bytes is ++ ys) → Rest xs at (list_bytes js ++ zs) → (is ≡ js) × Rest xs (beyond xs at) ys × Rest xs (beyond xs at) zs
    unfolding list_bytes
    list_same is js at ys zs a b r s =
        let q : Rest xs at (little 4 (length is) ++ (item_bytes is ++ ys)) = simp append_assoc at r in
        let t : Rest xs at (little 4 (length js) ++ (item_bytes js ++ zs)) = simp append_assoc at s in
        let n : length is ≡ length js = sym (four xs at (length is) _ a.0 q) ∙ four xs at (length js) _ b.0 t in
        let q4 = skip xs at 4 _ _ (length_little 4 (length is)) q in
        let t4 = skip xs at 4 _ _ (length_little 4 (length js)) t in (
          items_same is js (at + 4) ys zs (small_of w p wide large is a.1) (small_of w p wide large js b.1) n q4 t4,
          (list_there xs is at ys a.0 r).1,
          (list_there xs js at zs b.0 s).1,
        )

    rows_same : (ls ms : List Line) (at : ℕ) (ys zs : List ℕ)
        → AllByRecursion (λ l. Below w p l.a × Below w p l.b × Below w p l.c) ls → AllByRecursion (λ l. Below w p l.a × Below w p l.b × Below w p l.c) ms
        → length ls ≡ length ms → Rest xs at (row_bytes ls ++ ys) → Rest xs at (row_bytes ms ++ zs) → ls ≡ ms
    unfolding row_bytes
    rows_same [] [] at ys zs a b e r s = refl
    rows_same [] (m ∷ ms) at ys zs a b e r s = absurd (omega (arith, e))
    rows_same (l ∷ ls) [] at ys zs a b e r s = absurd (omega (arith, e))
    rows_same (l ∷ ls) (m ∷ ms) at ys zs a b e r s =
        let q : Rest xs at (list_bytes l.a ++ (list_bytes l.b ++ (list_bytes l.c ++ (row_bytes ls ++ ys)))) = simp append_assoc at r in
        let t : Rest xs at (list_bytes m.a ++ (list_bytes m.b ++ (list_bytes m.c ++ (row_bytes ms ++ zs)))) = simp append_assoc at s in
        let one = list_same l.a m.a at _ _ a.0.0 b.0.0 q t in
        let two = list_same l.b m.b (beyond xs at) _ _ a.0.1 b.0.1 one.1 one.2 in
        let three = list_same l.c m.c (beyond xs (beyond xs at)) _ _ a.0.2 b.0.2 two.1 two.2 in
        let ea = one.0 in
        let eb = two.0 in
        let ec = three.0 in
        let same : l ≡ m = λ z. record { a = ea z; b = eb z; c = ec z } in
        let more = rows_same ls ms (beyond xs (beyond xs (beyond xs at))) ys zs a.1 b.1 (omega (arith, e)) three.1 three.2 in
        λ z. same z ∷ more z

single : (xs : List ℕ) (p : ℕ) (c d : Circuit) → Encodes xs p c → Encodes xs p d → c ≡ d
single xs p c d f g =
    let qc = places xs p c f in
    let qd = places xs p d g in
    let sc : Says (header xs) c = rw qc.head (says c f.proper) in
    let sd : Says (header xs) d = rw qd.head (says d g.proper) in
    let e0 : c.prime ≡ d.prime = sym sc.prime ∙ sd.prime in
    let e1 : c.wires ≡ d.wires = sym sc.wires ∙ sd.wires in
    let e2 : c.outputs ≡ d.outputs = sym sc.outputs ∙ sd.outputs in
    let e3 : c.inputs ≡ d.inputs = sym sc.inputs ∙ sd.inputs in
    let e4 : c.private ≡ d.private = sym sc.private ∙ sd.private in
    let e5 : c.labels ≡ d.labels = sym sc.labels ∙ sd.labels in
    let n : length c.rows ≡ length d.rows = sym sc.rows ∙ sd.rows in
    let below : AllByRecursion (λ l. Below c.wires c.prime l.a × Below c.wires c.prime l.b × Below c.wires c.prime l.c) d.rows = simp (e0, e1) g.proper.rows in
    let e6 = rows_same xs c.wires c.prime f.proper.wires f.proper.prime c.rows d.rows (rows_at xs) _ _ f.proper.rows below n qc.rows qd.rows in
    λ z. record { prime = e0 z; wires = e1 z; outputs = e2 z; inputs = e3 z; private = e4 z; labels = e5 z; rows = e6 z }

pub opens_exactly_lem : OpensExactly
opens_exactly_lem xs p small = (opened_encodes xs p small, encodes_opened xs p, single xs p)
