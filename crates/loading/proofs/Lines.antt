-- The rows of a reader, one after another.
use Rattle.std.proofs.Common.{◌≡◌, ℕ, zero, suc, ◌+◌, ◌*◌, ◌/◌, ◌<◌, ◌≤◌, Bool, true, false, cond, ◌&&◌, leb, List, [], ◌∷◌, length, drop, sym, refl, ap, ◌∙◌, arith, length-take, le-leb}
use Rattle.std.proofs.lemmas.Bool.{and_parts, leb-true}
use Rattle.frames.specs.Little.{le4}
use Rattle.constraints.specs.declared.row.Row.{Row}
use Rattle.constraints.specs.declared.reader.RowReader.{RowReader}
use Rattle.constraints.specs.Opened.{beyond}
use Rattle.constraints.specs.Circuit.{Line}
use Rattle.constraints.specs.Reader.{list_part, after_row, again, Has, Parts}
use Rattle.loading.specs.Rows.{items_of, line_of, line_at, lines, rows_ahead, item_count}
use Rattle.loading.proofs.Items.{length_items}

module _ (xs : List ℕ) (stop : ℕ) where
  lines_stop : (left at : ℕ) → ¬ ((0 < left) × (after_row xs at ≤ stop) × (stop ≤ length xs)) → lines xs stop left at ≡ []
  unfolding lines
  lines_stop zero at n = refl
  lines_stop (suc left) at n = go (leb (after_row xs at) stop && leb stop (length xs)) refl
    where
      go : (b : Bool) → (leb (after_row xs at) stop && leb stop (length xs)) ≡ b → cond b (line_at xs at ∷ lines xs stop left (after_row xs at)) [] ≡ []
      go true e =
          let q = and_parts (leb (after_row xs at) stop) _ e in
          absurd (n (omega arith, leb-true (after_row xs at) stop q.0, leb-true stop (length xs) q.1))
      go false e = refl

  pub lines_go : (left at : ℕ) → after_row xs at ≤ stop → stop ≤ length xs → lines xs stop (suc left) at ≡ line_at xs at ∷ lines xs stop left (after_row xs at)
  unfolding lines
  lines_go left at h k = rw (le-leb (after_row xs at) stop h, le-leb stop (length xs) k)

  pub lines_none : (at : ℕ) → lines xs stop 0 at ≡ []
  unfolding lines
  lines_none at = refl

pub rows_none : (s : RowReader) → ¬ Has s → rows_ahead s ≡ []
rows_none s n = lines_stop s.bytes.now s.stop s.left s.at (λ h. n (record { left = h.0; inside = h.1; within = h.2 }))

line_same : (xs : List ℕ) (at : ℕ) (w : Row) → Parts xs at w → line_at xs at ≡ line_of w
line_same xs at w p = λ i. record { a = items_of (sym p.a i); b = items_of (sym p.b i); c = items_of (sym p.c i) }

pub rows_more : (s t : RowReader) (w : Row) → again t ≡ again s → Has s → Parts s.bytes.now s.at w → t.at ≡ after_row s.bytes.now s.at → t.left + 1 ≡ s.left
    → rows_ahead s ≡ line_of w ∷ rows_ahead t
rows_more s t w kept has parts at left =
    let xs = s.bytes.now in
    let bytes : t.bytes.now ≡ xs = ap (λ x. x.bytes.now) kept in
    let stop : t.stop ≡ s.stop = ap (λ x. x.stop) kept in
    let more : s.left ≡ suc t.left = omega (arith, left) in
    ap (λ n. lines xs s.stop n s.at) more
    ∙ lines_go xs s.stop t.left s.at has.inside has.within
    ∙ ap (λ l. l ∷ lines xs s.stop t.left (after_row xs s.at)) (line_same xs s.at w parts)
    ∙ ap (λ ys. line_of w ∷ lines ys s.stop t.left (after_row xs s.at)) (sym bytes)
    ∙ ap (λ k. line_of w ∷ lines t.bytes.now k t.left (after_row xs s.at)) (sym stop)
    ∙ ap (λ k. line_of w ∷ lines t.bytes.now t.stop t.left k) (sym at)

-- ── Counts ──

part_most : (xs : List ℕ) (at : ℕ) → length (list_part xs at) ≤ 12 * le4 xs at
part_most xs at = rw (length-take (12 * le4 xs at) (drop (at + 4) xs)) (omega arith)

-- a row takes its place for each item
pub row_size : (xs : List ℕ) (at : ℕ) (w : Row) → Parts xs at w → at + 12 * (length w.a.now / 12 + length w.b.now / 12 + length w.c.now / 12) ≤ after_row xs at
row_size xs at w p =
    let a = part_most xs at in
    let b = part_most xs (beyond xs at) in
    let c = part_most xs (beyond xs (beyond xs at)) in
    let ea = ap length p.a in
    let eb = ap length p.b in
    let ec = ap length p.c in
    omega arith

pub count_line : (w : Row) (ls : List Line) → item_count (line_of w ∷ ls) ≡ length w.a.now / 12 + length w.b.now / 12 + length w.c.now / 12 + item_count ls
count_line w ls =
    let a = length_items (length w.a.now / 12) w.a.now in
    let b = length_items (length w.b.now / 12) w.b.now in
    let c = length_items (length w.c.now / 12) w.c.now in
    omega arith
