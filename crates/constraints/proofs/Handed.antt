-- What the readers hand out of a written file.
use Rattle.std.proofs.Common.{◌≡◌, ℕ, ◌+◌, ◌*◌, ◌^◌, ◌<◌, ◌≤◌, List, [], ◌∷◌, ◌++◌, length, take, drop, Some, None, refl, ap, ◌∙◌, append_assoc, arith, length-append, length-drop, take_at}
use Rattle.frames.specs.Little.{little, le4, le8}
use Rattle.frames.proofs.Bytes.{Rest, skip, four, eight, whole, length_little}
use Rattle.constraints.specs.declared.item.Item.{Item}
use Rattle.constraints.specs.declared.row.Row.{Row}
use Rattle.constraints.specs.declared.reader.RowReader.{RowReader}
use Rattle.constraints.specs.Opened.{beyond}
use Rattle.constraints.specs.Lists.{first_of, rest_of}
use Rattle.constraints.specs.Circuit.{Line, item_bytes, list_bytes, row_bytes, Small}
use Rattle.constraints.specs.Reader.{list_part, after_row, Parts, Ahead, First}

pub length_items : (is : List Item) → length (item_bytes is) ≡ 12 * length is
unfolding item_bytes
length_items [] = refl
length_items (i ∷ is) =
    let a = length-append (little 4 i.wire) (little 8 i.coefficient ++ item_bytes is) in
    let b = length-append (little 8 i.coefficient) (item_bytes is) in
    omega (arith, a, b, length_little 4 i.wire, length_little 8 i.coefficient, length_items is)

module _ (xs : List ℕ) where
  pub list_there : (is : List Item) (at : ℕ) (zs : List ℕ) → length is < 2 ^ 32 → Rest xs at (list_bytes is ++ zs)
      → (list_part xs at ≡ item_bytes is) × Rest xs (beyond xs at) zs
  unfolding list_bytes
  list_there is at zs small r =
      let q : Rest xs at (little 4 (length is) ++ (item_bytes is ++ zs)) = simp append_assoc at r in
      let q4 : Rest xs (at + 4) (item_bytes is ++ zs) = skip xs at 4 _ _ (length_little 4 (length is)) q in
      let n : le4 xs at ≡ length is = four xs at (length is) _ small q in
      let l = length_items is in (
        rw n (ap (λ z. take (12 * length is) z) q4.here ∙ take_at (item_bytes is) zs (12 * length is) l),
        rw n (skip xs (at + 4) (12 * length is) (item_bytes is) zs l q4),
      )

  pub row_there : (l : Line) (ls : List Line) (at : ℕ) (zs : List ℕ) → (length l.a < 2 ^ 32) × (length l.b < 2 ^ 32) × (length l.c < 2 ^ 32)
      → Rest xs at (row_bytes (l ∷ ls) ++ zs)
      → (list_part xs at ≡ item_bytes l.a) × (list_part xs (beyond xs at) ≡ item_bytes l.b) × (list_part xs (beyond xs (beyond xs at)) ≡ item_bytes l.c) × Rest xs (after_row xs at) (row_bytes ls ++ zs)
  unfolding row_bytes
  row_there l ls at zs small r =
      let q : Rest xs at (list_bytes l.a ++ (list_bytes l.b ++ (list_bytes l.c ++ (row_bytes ls ++ zs)))) = simp append_assoc at r in
      let a = list_there l.a at _ small.0 q in
      let b = list_there l.b (beyond xs at) _ small.1 a.1 in
      let c = list_there l.c (beyond xs (beyond xs at)) _ small.2 b.1 in
      (a.0, b.0, c.0, c.1)

-- the reader as what is left of its file
pub left_of : (s : RowReader) (ls : List Line) → Ahead s ls → Rest s.bytes.now s.at (row_bytes ls ++ drop s.stop s.bytes.now)
left_of s ls h =
    record { here = h.here; size = simp (length-append, length-drop) (omega (arith, h.size, h.within)) }

pub none_left : (s : RowReader) (ls : List Line) → Ahead s ls → s.left ≡ 0 → ls ≡ []
none_left s [] h e = refl
none_left s (l ∷ ls) h e = absurd (omega (arith, h.left, e))

pub next_line : (s t : RowReader) (ls : List Line) (w : Row) → t.bytes.now ≡ s.bytes.now → t.stop ≡ s.stop → t.at ≡ after_row s.bytes.now s.at → t.left + 1 ≡ s.left
    → Parts s.bytes.now s.at w → Ahead s ls → First ls w × Ahead t (rest_of ls)
next_line s t [] w eb es ea el p h = absurd (omega (arith, h.left, el))
next_line s t (l ∷ ls) w eb es ea el p h =
    let xs = s.bytes.now in
    let r = row_there xs l ls s.at (drop s.stop xs) h.counts.0 (left_of s (l ∷ ls) h) in
    let z = simp (length-append, length-drop) at r.3.size in (
      (p.a ∙ r.0, p.b ∙ r.1, p.c ∙ r.2),
      record {
        here = simp (eb, es, ea) r.3.here;
        size = omega (arith, z, es, ea, h.within, h.size);
        within = simp (eb, es) h.within;
        left = omega (arith, h.left, el);
        counts = h.counts.1;
      },
    )

-- a row that is there is within its section
pub there : (s : RowReader) (ls : List Line) → Ahead s ls → 0 < s.left → after_row s.bytes.now s.at ≤ s.stop
there s [] h e = absurd (omega (arith, h.left, e))
there s (l ∷ ls) h e =
    let xs = s.bytes.now in
    let r = row_there xs l ls s.at (drop s.stop xs) h.counts.0 (left_of s (l ∷ ls) h) in
    let z = simp (length-append, length-drop) at r.3.size in
    omega (arith, z, h.within)

-- the first item of a list, and the others
pub item_first : (is : List Item) → Small is → 12 ≤ length (item_bytes is)
    → (i : Item) → i.wire ≡ le4 (item_bytes is) 0 → i.coefficient ≡ le8 (item_bytes is) 4 → (Some i ≡ first_of is) × (drop 12 (item_bytes is) ≡ item_bytes (rest_of is))
unfolding item_bytes
item_first [] a h i ew ec = absurd (omega (arith, h))
item_first (x ∷ is) a h i ew ec =
    let xs = item_bytes (x ∷ is) in
    let r = whole xs in
    let r4 = skip xs 0 4 _ _ (length_little 4 x.wire) r in
    let r12 : Rest xs 12 (item_bytes is) = skip xs 4 8 _ _ (length_little 8 x.coefficient) r4 in
    let w : i.wire ≡ x.wire = ew ∙ four xs 0 x.wire _ a.0.0 r in
    let k : i.coefficient ≡ x.coefficient = ec ∙ eight xs 4 x.coefficient _ a.0.1 r4 in
    let same : i ≡ x = λ j. record { wire = w j; coefficient = k j } in
    (ap Some same, r12.here)

pub no_item : (is : List Item) → length (item_bytes is) < 12 → (None ≡ first_of is) × (item_bytes is ≡ item_bytes (rest_of is))
no_item [] h = (refl, refl)
no_item (x ∷ is) h = absurd (omega (arith, h, length_items (x ∷ is)))
