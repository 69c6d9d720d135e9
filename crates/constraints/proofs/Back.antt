-- What is opened encodes a circuit.
use Rattle.std.proofs.Common.{◌≡◌, ℕ, zero, suc, ◌+◌, ◌-◌, ◌*◌, ◌^◌, ◌<◌, ◌≤◌, eqb, ltb, leb, List, [], ◌∷◌, ◌++◌, length, take, drop, Some, None, sym, refl, ap, ◌∙◌, append_assoc, append-nil, add-zero, add_assoc, arith, length-append, length-drop, take_at, ltb-true, eqb-true, leb-true}
use lib.Seq.{drop-length}
use Rattle.std.specs.List.{AllByRecursion}
use Rattle.frames.specs.Little.{little, le4, le8, part, Bytes}
use Rattle.frames.specs.Faults.{check, then}
use Rattle.frames.specs.Checks.{payload, laid, place_of}
use Rattle.frames.proofs.Faults.{passed, then_both}
use Rattle.frames.proofs.Bytes.{take_small, drop_small, le4_lt, le8_lt, four_back, eight_back}
use Rattle.frames.proofs.Stands.{found, consists, there}
use Rattle.constraints.specs.declared.item.Item.{Item}
use Rattle.constraints.specs.Opened.{magic, headed, items, beyond, lists, header, rows_at, rows_stop, rowed, opened}
use Rattle.constraints.specs.Circuit.{Line, Circuit, item_bytes, list_bytes, row_bytes, header_bytes, Below, Proper, Encodes}
use Rattle.constraints.proofs.Granted.{lists_step}

lists_zero : (xs : List ℕ) (w p stop at : ℕ) → lists xs w p stop 0 at ≡ None → at ≡ stop
unfolding lists
lists_zero xs w p stop at e = eqb-true at stop (passed (eqb at stop) None 8 at e).0

module _ (xs : List ℕ) (small : Bytes xs) where
  module _ (w p : ℕ) where
    items_back : (n at : ℕ) → at + 12 * n ≤ length xs → items xs w p n at ≡ None
        → (is : List Item) × (length is ≡ n) × AllByRecursion (λ i. (i.wire < w) × (i.coefficient < p)) is × (drop at xs ≡ item_bytes is ++ drop (at + 12 * n) xs)
    unfolding items item_bytes
    items_back zero at f e = ([], refl, tt, rw add-zero)
    items_back (suc n) at f e =
        let p1 = passed (ltb (le4 xs at) w) (check (ltb (le8 xs (at + 4)) p) 10 (at + 4) (items xs w p n (at + 12))) 10 at e in
        let p2 = passed (ltb (le8 xs (at + 4)) p) (items xs w p n (at + 12)) 10 (at + 4) p1.1 in
        let rest = items_back n (at + 12) (omega arith) p2.1 in
        let i : Item = record { wire = le4 xs at; coefficient = le8 xs (at + 4) } in
        let b : drop (at + 4) xs ≡ little 8 (le8 xs (at + 4)) ++ drop (at + 12) xs = rw add_assoc at (eight_back xs small (at + 4) (omega arith)) in
        let k : at + 12 + 12 * n ≡ at + 12 * suc n = omega arith in
        let r : drop (at + 12) xs ≡ item_bytes rest.0 ++ drop (at + 12 * suc n) xs = rw k at rest.3 in
        let lw : i.wire < w = ltb-true (le4 xs at) w p1.0 in
        let ln : i.coefficient < p = ltb-true (le8 xs (at + 4)) p p2.0 in (
          i ∷ rest.0,
          ap suc rest.1,
          ((lw, ln), rest.2),
          simp append_assoc (four_back xs small at (omega arith) ∙ ap (λ l. little 4 (le4 xs at) ++ l) (b ∙ ap (λ l. little 8 (le8 xs (at + 4)) ++ l) r)),
        )

    list_back : (at : ℕ) → beyond xs at ≤ length xs → items xs w p (le4 xs at) (at + 4) ≡ None
        → (is : List Item) × Below w p is × (drop at xs ≡ list_bytes is ++ drop (beyond xs at) xs)
    unfolding list_bytes
    list_back at f e =
        let r = items_back (le4 xs at) (at + 4) (omega arith) e in
        let n : length r.0 < 2 ^ 32 = omega (arith, r.1, le4_lt xs small at) in
        (r.0, (n, r.2), simp (append_assoc, r.1) (four_back xs small at (omega arith) ∙ ap (λ l. little 4 (le4 xs at) ++ l) r.3))

    lines_back : (stop n at : ℕ) → stop ≤ length xs → lists xs w p stop (3 * n) at ≡ None
        → (ls : List Line) × (length ls ≡ n) × AllByRecursion (λ l. Below w p l.a × Below w p l.b × Below w p l.c) ls × (drop at xs ≡ row_bytes ls ++ drop stop xs)
    unfolding row_bytes
    lines_back stop zero at f e = ([], refl, tt, ap (λ n. drop n xs) (lists_zero xs w p stop at e))
    lines_back stop (suc n) at f e =
        let k : 3 * suc n ≡ suc (suc (suc (3 * n))) = omega arith in
        let k1 : suc (suc (suc (3 * n))) - 1 ≡ suc (suc (3 * n)) = omega arith in
        let k2 : suc (suc (3 * n)) - 1 ≡ suc (3 * n) = omega arith in
        let k3 : suc (3 * n) - 1 ≡ 3 * n = omega arith in
        let a = rw k1 at (lists_step xs w p stop (suc (suc (suc (3 * n)))) at (omega arith) (rw k at e)) in
        let b = rw k2 at (lists_step xs w p stop (suc (suc (3 * n))) (beyond xs at) (omega arith) a.2) in
        let c = rw k3 at (lists_step xs w p stop (suc (3 * n)) (beyond xs (beyond xs at)) (omega arith) b.2) in
        let la = list_back at (omega (arith, a.0, f)) a.1 in
        let lb = list_back (beyond xs at) (omega (arith, b.0, f)) b.1 in
        let lc = list_back (beyond xs (beyond xs at)) (omega (arith, c.0, f)) c.1 in
        let rest = lines_back stop n (beyond xs (beyond xs (beyond xs at))) f c.2 in
        let l : Line = record { a = la.0; b = lb.0; c = lc.0 } in (
          l ∷ rest.0,
          ap suc rest.1,
          ((la.1, lb.1, lc.1), rest.2),
          simp append_assoc (la.2 ∙ ap (λ z. list_bytes la.0 ++ z) (lb.2 ∙ ap (λ z. list_bytes lb.0 ++ z) (lc.2 ∙ ap (λ z. list_bytes lc.0 ++ z) rest.3))),
        )

-- the header
header_back : (hs : List ℕ) (at p : ℕ) (ls : List Line) → Bytes hs → headed hs at p ≡ None → length ls ≡ le4 hs 36
    → (c : Circuit) × (c.prime ≡ p) × (c.rows ≡ ls) × (c.wires ≡ le4 hs 12) × (1 + c.outputs + c.inputs + c.private ≤ c.wires) × (c.labels < 2 ^ 64) × (c.prime < 2 ^ 64) × (hs ≡ header_bytes c)
unfolding headed header_bytes
header_back hs at p ls small e n =
    let c4 = check (leb (1 + le4 hs 16 + le4 hs 20 + le4 hs 24) (le4 hs 12)) 8 (at + 12) None in
    let c3 = check (eqb (le8 hs 4) p) 9 (at + 4) c4 in
    let c2 = check (eqb (le4 hs 0) 8) 8 at c3 in
    let p1 = passed (eqb (length hs) 40) c2 8 at e in
    let p2 = passed (eqb (le4 hs 0) 8) c3 8 at p1.1 in
    let p3 = passed (eqb (le8 hs 4) p) c4 9 (at + 4) p2.1 in
    let p4 = passed (leb (1 + le4 hs 16 + le4 hs 20 + le4 hs 24) (le4 hs 12)) None 8 (at + 12) p3.1 in
    let l : length hs ≡ 40 = eqb-true (length hs) 40 p1.0 in
    let c : Circuit = record { prime = le8 hs 4; wires = le4 hs 12; outputs = le4 hs 16; inputs = le4 hs 20; private = le4 hs 24; labels = le8 hs 28; rows = ls } in
    let f0 : hs ≡ little 4 (le4 hs 0) ++ drop 4 hs = four_back hs small 0 (omega arith) in
    let f4 : drop 4 hs ≡ little 8 (le8 hs 4) ++ drop 12 hs = eight_back hs small 4 (omega arith) in
    let f12 : drop 12 hs ≡ little 4 (le4 hs 12) ++ drop 16 hs = four_back hs small 12 (omega arith) in
    let f16 : drop 16 hs ≡ little 4 (le4 hs 16) ++ drop 20 hs = four_back hs small 16 (omega arith) in
    let f20 : drop 20 hs ≡ little 4 (le4 hs 20) ++ drop 24 hs = four_back hs small 20 (omega arith) in
    let f24 : drop 24 hs ≡ little 4 (le4 hs 24) ++ drop 28 hs = four_back hs small 24 (omega arith) in
    let f28 : drop 28 hs ≡ little 8 (le8 hs 28) ++ drop 36 hs = eight_back hs small 28 (omega arith) in
    let f36 : drop 36 hs ≡ little 4 (le4 hs 36) ++ drop 40 hs = four_back hs small 36 (omega arith) in
    let f40 : drop 40 hs ≡ [] = ap (λ k. drop k hs) (sym l) ∙ drop-length hs in
    let size : le4 hs 0 ≡ 8 = eqb-true (le4 hs 0) 8 p2.0 in
    let last : little 4 (le4 hs 36) ++ [] ≡ little 4 (le4 hs 36) = append-nil (little 4 (le4 hs 36)) in
    (c, eqb-true (le8 hs 4) p p3.0, refl, refl, leb-true (1 + le4 hs 16 + le4 hs 20 + le4 hs 24) (le4 hs 12) p4.0, le8_lt hs small 28, le8_lt hs small 4, cc)

payload_back : (xs ys : List ℕ) (at n : ℕ) → at + n ≤ length xs → drop at xs ≡ ys ++ drop (at + n) xs → part xs at n ≡ ys
payload_back xs ys at n h e =
    let l : length ys ≡ n = omega (arith, simp (length-drop, length-append) at (ap length e)) in
    ap (λ z. take n z) e ∙ take_at ys (drop (at + n) xs) n l

in_order : (c : Circuit) (ls : List Line) (w p : ℕ) → c.prime ≡ p → c.rows ≡ ls → c.wires ≡ w → w < 2 ^ 32
    → 1 + c.outputs + c.inputs + c.private ≤ c.wires → c.labels < 2 ^ 64 → c.prime < 2 ^ 64 → length ls < 2 ^ 32
    → AllByRecursion (λ l. Below w p l.a × Below w p l.b × Below w p l.c) ls → Proper c
in_order c ls w p ep el ew wide enough labels small rows lines =
    record { prime = small; wires = omega arith; enough = enough; labels = labels; count = rw el rows; rows = simp (ep, el, ew) lines }

pub opened_encodes : (xs : List ℕ) (p : ℕ) → Bytes xs → opened xs p ≡ None → (c : Circuit) × Encodes xs p c
unfolding opened
opened_encodes xs p small e =
    let t1 = then_both (laid magic 1 xs) (then (headed (header xs) (place_of xs 1 + 12) p) (rowed xs p)) e in
    let t2 = then_both (headed (header xs) (place_of xs 1 + 12) p) (rowed xs p) t1.1 in
    let ss = consists xs small magic 1 t1.0 in
    let f = found magic 1 xs (omega arith) (omega arith) ss.0 ss.1 in
    let hs = header xs in
    let hsmall : Bytes hs = take_small (le8 xs (place_of xs 1 + 4)) (drop (place_of xs 1 + 12) xs) (drop_small (place_of xs 1 + 12) xs small) in
    let t = there xs (place_of xs 2) f.body_fits in
    let ls = lines_back xs small (le4 hs 12) p (rows_stop xs) (le4 hs 36) (rows_at xs) t.within t2.1 in
    let h = header_back hs (place_of xs 1 + 12) p ls.0 hsmall t2.0 ls.1 in
    let c = h.0 in
    let y : part xs (rows_at xs) (length (payload xs (place_of xs 2))) ≡ row_bytes ls.0 =
    payload_back xs (row_bytes ls.0) (rows_at xs) (length (payload xs (place_of xs 2))) t.within ls.3 in
    let body : payload xs (place_of xs 2) ≡ row_bytes c.rows = ap (λ n. part xs (rows_at xs) n) (sym t.size) ∙ y ∙ ap row_bytes (sym h.2) in
    let rows : length ls.0 < 2 ^ 32 = omega (arith, ls.1, le4_lt hs hsmall 36) in (
      c,
      record {
        sections = ss.0;
        file = ss.1;
        header = f.header ∙ ap Some h.7;
        body = f.body ∙ ap Some body;
        prime = h.1;
        proper = in_order c ls.0 (le4 hs 12) p h.1 h.2 h.3 (le4_lt hs hsmall 12) h.4 h.5 h.6 rows ls.2;
      },
    )
