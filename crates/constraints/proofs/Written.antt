-- What encodes a circuit is opened.
use Rattle.std.proofs.Common.{◌≡◌, ℕ, suc, ◌+◌, ◌-◌, ◌*◌, ◌^◌, ◌<◌, ◌≤◌, List, [], ◌∷◌, ◌++◌, length, drop, None, refl, ap, ◌∙◌, append_assoc, append-nil, add-zero, add_assoc, arith, length-append, length-drop}
use Rattle.std.specs.List.{AllByRecursion}
use Rattle.frames.specs.Little.{little, le4, le8}
use Rattle.frames.specs.Checks.{payload, laid, place_of}
use Rattle.frames.proofs.Faults.{goes}
use Rattle.frames.proofs.Bytes.{Rest, skip, four, eight, whole, length_little}
use Rattle.frames.proofs.Stands.{found, there}
use Rattle.constraints.specs.declared.item.Item.{Item}
use Rattle.constraints.specs.Opened.{magic, headed, items, beyond, lists, header, rows_at, rows_stop, rowed, opened}
use Rattle.constraints.specs.Circuit.{Line, Circuit, item_bytes, list_bytes, row_bytes, header_bytes, Below, Proper, Encodes}
use Rattle.constraints.proofs.Walk.{items_more, items_done, lists_go, lists_done, head_right}

module _ (xs : List ℕ) where
  module _ (w p : ℕ) (wide : w < 2 ^ 32) (small : p < 2 ^ 64) where
    pub items_right : (is : List Item) (at : ℕ) (zs : List ℕ) → AllByRecursion (λ i. (i.wire < w) × (i.coefficient < p)) is → Rest xs at (item_bytes is ++ zs)
        → (items xs w p (length is) at ≡ None) × Rest xs (at + 12 * length is) zs
    unfolding item_bytes
    items_right [] at zs a r = (items_done xs w p at, rw add-zero r)
    items_right (i ∷ is) at zs a r =
        let q : Rest xs at (little 4 i.wire ++ (little 8 i.coefficient ++ (item_bytes is ++ zs))) = simp append_assoc at r in
        let q4 : Rest xs (at + 4) (little 8 i.coefficient ++ (item_bytes is ++ zs)) = skip xs at 4 _ _ (length_little 4 i.wire) q in
        let q12 : Rest xs (at + 12) (item_bytes is ++ zs) = rw add_assoc at (skip xs (at + 4) 8 _ _ (length_little 8 i.coefficient) q4) in
        let m = four xs at i.wire _ (omega (arith, a.0.0)) q in
        let n = eight xs (at + 4) i.coefficient _ (omega (arith, a.0.1)) q4 in
        let k : suc (length is) - 1 ≡ length is = omega arith in
        let j : at + 12 + 12 * length is ≡ at + 12 * suc (length is) = omega arith in
        let s = items_right is (at + 12) zs a.1 q12 in
        (items_more xs w p (suc (length is)) at (omega arith) (omega (arith, m, a.0.0)) (omega (arith, n, a.0.1)) ∙ rw k s.0, rw j at s.1)

    pub list_right : (is : List Item) (at : ℕ) (zs : List ℕ) → Below w p is → Rest xs at (list_bytes is ++ zs)
        → (le4 xs at ≡ length is) × (items xs w p (le4 xs at) (at + 4) ≡ None) × Rest xs (beyond xs at) zs
    unfolding list_bytes
    list_right is at zs a r =
        let q : Rest xs at (little 4 (length is) ++ (item_bytes is ++ zs)) = simp append_assoc at r in
        let q4 : Rest xs (at + 4) (item_bytes is ++ zs) = skip xs at 4 _ _ (length_little 4 (length is)) q in
        let n = four xs at (length is) _ a.0 q in
        let s = items_right is (at + 4) zs a.1 q4 in
        (n, rw n s.0, rw n s.1)

    pub one_list : (stop n at : ℕ) (is : List Item) (zs : List ℕ) → Below w p is → Rest xs at (list_bytes is ++ zs) → beyond xs at ≤ stop
        → lists xs w p stop (n + 1) at ≡ lists xs w p stop n (beyond xs at)
    one_list stop n at is zs a r f =
        let t = list_right is at zs a r in
        let k : n + 1 - 1 ≡ n = omega arith in
        lists_go xs w p stop (n + 1) at (omega arith) f ∙ goes _ _ t.1 ∙ rw k

    pub lines_right : (ls : List Line) (at stop : ℕ) (zs : List ℕ)
        → AllByRecursion (λ l. Below w p l.a × Below w p l.b × Below w p l.c) ls
        → Rest xs at (row_bytes ls ++ zs) → Rest xs stop zs → lists xs w p stop (3 * length ls) at ≡ None
    unfolding row_bytes
    lines_right [] at stop zs a r e = lists_done xs w p stop at (omega (arith, r.size, e.size))
    lines_right (l ∷ ls) at stop zs a r e =
        let q : Rest xs at (list_bytes l.a ++ (list_bytes l.b ++ (list_bytes l.c ++ (row_bytes ls ++ zs)))) = simp append_assoc at r in
        let ta = list_right l.a at _ a.0.0 q in
        let tb = list_right l.b (beyond xs at) _ a.0.1 ta.2 in
        let tc = list_right l.c (beyond xs (beyond xs at)) _ a.0.2 tb.2 in
        let z = length-append (row_bytes ls) zs in
        let f : beyond xs (beyond xs (beyond xs at)) ≤ stop = omega (arith, tc.2.size, e.size, z) in
        let k : 3 * suc (length ls) ≡ 3 * length ls + 1 + 1 + 1 = omega arith in
        rw k (one_list stop (3 * length ls + 1 + 1) at _ _ a.0.0 q (omega (arith, f))
        ∙ one_list stop (3 * length ls + 1) (beyond xs at) _ _ a.0.1 ta.2 (omega (arith, f))
        ∙ one_list stop (3 * length ls) (beyond xs (beyond xs at)) _ _ a.0.2 tb.2 f
        ∙ lines_right ls (beyond xs (beyond xs (beyond xs at))) stop zs a.1 tc.2 e)

-- what a header says
pub record Says (hs : List ℕ) (c : Circuit) : Type 0 where
  pub long : length hs ≡ 40
  pub size : le4 hs 0 ≡ 8
  pub prime : le8 hs 4 ≡ c.prime
  pub wires : le4 hs 12 ≡ c.wires
  pub outputs : le4 hs 16 ≡ c.outputs
  pub inputs : le4 hs 20 ≡ c.inputs
  pub private : le4 hs 24 ≡ c.private
  pub labels : le8 hs 28 ≡ c.labels
  pub rows : le4 hs 36 ≡ length c.rows

pub says : (c : Circuit) → Proper c → Says (header_bytes c) c
unfolding header_bytes
says c ok =
    let hs = header_bytes c in
    let r0 = whole hs in
    let r4 = skip hs 0 4 _ _ (length_little 4 8) r0 in
    let r12 = skip hs 4 8 _ _ (length_little 8 c.prime) r4 in
    let r16 = skip hs 12 4 _ _ (length_little 4 c.wires) r12 in
    let r20 = skip hs 16 4 _ _ (length_little 4 c.outputs) r16 in
    let r24 = skip hs 20 4 _ _ (length_little 4 c.inputs) r20 in
    let r28 = skip hs 24 4 _ _ (length_little 4 c.private) r24 in
    let r36 = skip hs 28 8 _ _ (length_little 8 c.labels) r28 in
    let e36 : Rest hs 36 (little 4 (length c.rows) ++ []) = simp append-nil r36 in
    record {
      long = omega (arith, r36.size, length_little 4 (length c.rows));
      size = four hs 0 8 _ (omega arith) r0;
      prime = eight hs 4 c.prime _ ok.prime r4;
      wires = four hs 12 c.wires _ ok.wires r12;
      outputs = four hs 16 c.outputs _ (omega (arith, ok.wires, ok.enough)) r16;
      inputs = four hs 20 c.inputs _ (omega (arith, ok.wires, ok.enough)) r20;
      private = four hs 24 c.private _ (omega (arith, ok.wires, ok.enough)) r24;
      labels = eight hs 28 c.labels _ ok.labels r28;
      rows = four hs 36 (length c.rows) _ ok.count e36;
    }

-- where the parts of the file stand
pub record Places (xs : List ℕ) (c : Circuit) : Type 0 where
  pub laid_out : laid magic 1 xs ≡ None
  pub head : header xs ≡ header_bytes c
  pub size : rows_stop xs ≡ rows_at xs + length (row_bytes c.rows)
  pub rows : Rest xs (rows_at xs) (row_bytes c.rows ++ drop (rows_stop xs) xs)
  pub after : Rest xs (rows_stop xs) (drop (rows_stop xs) xs)

pub places : (xs : List ℕ) (p : ℕ) (c : Circuit) → Encodes xs p c → Places xs c
places xs p c ok =
    let f = found magic 1 xs (omega arith) (omega arith) ok.sections ok.file in
    let head : header xs ≡ header_bytes c = let a = f.header in let b = ok.header in cc in
    let body : payload xs (place_of xs 2) ≡ row_bytes c.rows = let a = f.body in let b = ok.body in cc in
    let t = there xs (place_of xs 2) f.body_fits in
    let n = length-append (row_bytes c.rows) (drop (rows_stop xs) xs) in
    let l = length-drop (rows_stop xs) xs in
    record {
      laid_out = f.granted;
      head = head;
      size = ap (λ z. rows_at xs + length z) body;
      rows = record { here = t.here ∙ ap (λ z. z ++ drop (rows_stop xs) xs) body; size = omega (arith, n, l, t.within, ap length body) };
      after = record { here = refl; size = omega (arith, l, t.within) };
    }

pub encodes_opened : (xs : List ℕ) (p : ℕ) (c : Circuit) → Encodes xs p c → opened xs p ≡ None
unfolding opened
encodes_opened xs p c ok =
    let q = places xs p c ok in
    let proper = ok.proper in
    let h = says c proper in
    let head : headed (header xs) (place_of xs 1 + 12) c.prime ≡ None =
    rw q.head (head_right (header_bytes c) (place_of xs 1 + 12) c.prime h.long h.size h.prime (omega (arith, h, proper.enough))) in
    let rows : rowed xs c.prime ≡ None =
    rw (q.head, h.wires, h.rows) (lines_right xs c.wires c.prime proper.wires proper.prime c.rows (rows_at xs) (rows_stop xs) _ proper.rows q.rows q.after) in
    goes _ _ q.laid_out ∙ goes _ _ (rw ok.prime at head) ∙ (rw ok.prime at rows)
