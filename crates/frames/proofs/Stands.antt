-- The sections of a file, from its sections to its bytes and back.
use Rattle.std.proofs.Common.{◌≡◌, ℕ, zero, suc, ◌+◌, ◌-◌, ◌^◌, ◌<◌, ◌≤◌, true, ◌&&◌, ◌||◌, eqb, leb, List, [], ◌∷◌, ◌++◌, length, take, drop, Some, None, sym, refl, ap, ◌∙◌, append_assoc, add_assoc, arith, length-drop, length-take-le, take_at, eq-eqb, ne_eqb, eqb-true, leb-true}
use lib.Seq.{drop-length}
use Rattle.std.specs.List.{AllByRecursion}
use Rattle.std.proofs.lemmas.Bool.Decides.{nat_tests}
use Rattle.std.proofs.lemmas.Bool.{and_parts}
use Rattle.frames.specs.Little.{little, le4, le8, Bytes}
use Rattle.frames.specs.Faults.{check, then}
use Rattle.frames.specs.Checks.{past, payload, started, framed, others, kinds, laid, place_of}
use Rattle.frames.specs.Sections.{Block, block_bytes, blocks_bytes, file_bytes, section_of, Consists}
use Rattle.frames.specs.Shown.{Holds}
use Rattle.frames.specs.declared.layout.Layout.{Layout}
use Rattle.frames.proofs.Faults.{passed, then_both, goes, no_fault}
use Rattle.frames.proofs.Walk.{framed_more, framed_done, framed_step, others_more, others_done, both, begun, sought_here, second}
use Rattle.frames.proofs.Bytes.{length_little, Rest, skip, four, eight, parted, le4_lt, le8_lt, four_back, eight_back}

abbrev Sized : Block → Type 0
Sized s = (s.kind < 2 ^ 32) × (length s.payload < 2 ^ 64)

abbrev Apart : Block → Type 0
Apart s = ¬ (s.kind ≡ 1) × ¬ (s.kind ≡ 2)

-- a section that stands at a place
pub record Stands (xs : List ℕ) (at : ℕ) (s : Block) (zs : List ℕ) : Type 0 where
  pub kind_is : le4 xs at ≡ s.kind
  pub payload_is : payload xs at ≡ s.payload
  pub fits : past xs at ≤ length xs
  pub after : Rest xs (past xs at) zs

module _ (xs : List ℕ) where
  stand : (at : ℕ) (s : Block) (zs : List ℕ) → Sized s → Rest xs at (block_bytes s ++ zs) → Stands xs at s zs
  unfolding block_bytes
  stand at s zs z r =
      let kind = s.kind in
      let bytes = s.payload in
      let q : Rest xs at (little 4 kind ++ (little 8 (length bytes) ++ (bytes ++ zs))) = simp append_assoc at r in
      let q4 : Rest xs (at + 4) (little 8 (length bytes) ++ (bytes ++ zs)) = skip xs at 4 _ _ (length_little 4 kind) q in
      let q12 : Rest xs (at + 12) (bytes ++ zs) = rw add_assoc at (skip xs (at + 4) 8 _ _ (length_little 8 (length bytes)) q4) in
      let n = eight xs (at + 4) (length bytes) _ z.1 q4 in
      let e : past xs at ≡ at + 12 + length bytes = omega (arith, n) in
      let w : Rest xs (at + 12 + length bytes) zs = skip xs (at + 12) (length bytes) _ _ refl q12 in
      record {
        kind_is = four xs at kind _ z.0 q;
        payload_is = rw n (ap (λ l. take (length bytes) l) q12.here ∙ take_at bytes zs (length bytes) refl);
        fits = omega (arith, e, w.size);
        after = rw e w;
      }

  rest_right : (ss : List Block) (at : ℕ) → AllByRecursion Sized ss → AllByRecursion Apart ss → Rest xs at (blocks_bytes ss)
      → (framed xs (length ss) at ≡ None) × (others xs (length ss) at ≡ None)
  unfolding blocks_bytes
  rest_right [] at z a r = (framed_done xs at (omega (arith, r.size)), others_done xs at)
  rest_right (s ∷ ss) at z a r =
      let t = stand at s (blocks_bytes ss) z.0 r in
      let k : suc (length ss) - 1 ≡ length ss = omega arith in
      let m = rest_right ss (past xs at) z.1 a.1 t.after in (
        framed_more xs (suc (length ss)) at (omega arith) t.fits ∙ rw k m.0,
        others_more xs (suc (length ss)) at (omega arith) (λ e. a.0.0 (sym t.kind_is ∙ e)) (λ e. a.0.1 (sym t.kind_is ∙ e)) ∙ rw k m.1,
      )

-- the checks grant the file, and find the sections that are looked up
pub record Found (m v : ℕ) (xs : List ℕ) (ss : List Block) : Type 0 where
  pub granted : laid m v xs ≡ None
  pub header : section_of 1 ss ≡ Some (payload xs (place_of xs 1))
  pub body : section_of 2 ss ≡ Some (payload xs (place_of xs 2))
  pub header_fits : past xs (place_of xs 1) ≤ length xs
  pub body_fits : past xs (place_of xs 2) ≤ length xs

module _ (m v : ℕ) (xs : List ℕ) (narrow : m < 2 ^ 32) (small : v < 2 ^ 32) where
  pub found : (ss : List Block) → Consists m v xs ss → Found m v xs ss
  unfolding file_bytes blocks_bytes laid
  found [] ok = absurd ok.order
  found (h ∷ []) ok = absurd ok.order
  found (h ∷ (b ∷ ss)) ok =
      let r0 : Rest xs 0 (little 4 m ++ (little 4 v ++ (little 4 (length (h ∷ (b ∷ ss))) ++ (block_bytes h ++ (block_bytes b ++ blocks_bytes ss))))) = record { here = ok.bytes; size = omega (arith, ap length ok.bytes) } in
      let r4 = skip xs 0 4 _ _ (length_little 4 m) r0 in
      let r8 = skip xs 4 4 _ _ (length_little 4 v) r4 in
      let r12 = skip xs 8 4 _ _ (length_little 4 (length (h ∷ (b ∷ ss)))) r8 in
      let magic = four xs 0 m _ narrow r0 in
      let version = four xs 4 v _ small r4 in
      let n : le4 xs 8 ≡ suc (suc (length ss)) = four xs 8 (length (h ∷ (b ∷ ss))) _ ok.count r8 in
      let one = stand xs 12 h _ ok.sizes.0 r12 in
      let two = stand xs (past xs 12) b _ ok.sizes.1.0 one.after in
      let more = rest_right xs ss (past xs (past xs 12)) ok.sizes.1.1 ok.order.2 two.after in
      let k1 : le4 xs 12 ≡ 1 = one.kind_is ∙ ok.order.0 in
      let k2 : le4 xs (past xs 12) ≡ 2 = two.kind_is ∙ ok.order.1 in
      let j : suc (suc (length ss)) - 1 - 1 ≡ length ss = omega arith in
      let j2 : suc (suc (length ss)) - 2 ≡ length ss = omega arith in
      let frames : framed xs (suc (suc (length ss))) 12 ≡ None =
      framed_more xs (suc (suc (length ss))) 12 (omega arith) one.fits
      ∙ framed_more xs (suc (suc (length ss)) - 1) (past xs 12) (omega arith) two.fits ∙ rw j more.0 in
      let other : others xs (le4 xs 8 - 2) (past xs (past xs 12)) ≡ None = rw (n, j2) more.1 in
      let at1 : place_of xs 1 ≡ 12 = sought_here xs 1 (le4 xs 8) 12 (omega arith) k1 in
      let at2 : place_of xs 2 ≡ past xs 12 = second xs (le4 xs 8) 12 (omega arith) k1 k2 in
      let no : ¬ (h.kind ≡ 2) = λ e. omega (arith, e, ok.order.0) in
      record {
        granted = goes _ _ (begun m v xs (omega (arith, r4.size)) magic (omega (arith, r8.size)) version (omega (arith, r12.size)) (omega (arith, n)))
            ∙ goes _ _ (rw n frames) ∙ both xs k1 k2 ∙ other;
        header = rw (eq-eqb h.kind 1 ok.order.0, at1) (ap Some (sym one.payload_is));
        body = rw (ne_eqb h.kind 2 no, eq-eqb b.kind 2 ok.order.1, at2) (ap Some (sym two.payload_is));
        header_fits = rw at1 one.fits;
        body_fits = rw at2 two.fits;
      }

-- a payload that fits, and what follows it
pub record There (xs : List ℕ) (at : ℕ) : Type 0 where
  pub here : drop (at + 12) xs ≡ payload xs at ++ drop (at + 12 + length (payload xs at)) xs
  pub size : length (payload xs at) ≡ le8 xs (at + 4)
  pub within : at + 12 + length (payload xs at) ≤ length xs

pub there : (xs : List ℕ) (at : ℕ) → past xs at ≤ length xs → There xs at
there xs at h =
    let n = le8 xs (at + 4) in
    let e : length (take n (drop (at + 12) xs)) ≡ n = length-take-le n (drop (at + 12) xs) (simp length-drop (omega arith)) in
    record {
      here = rw e (parted n (at + 12) xs);
      size = e;
      within = omega (arith, e);
    }

other_kind : (k : ℕ) → (eqb k 0 || leb 3 k) ≡ true → ¬ (k ≡ 1) × ¬ (k ≡ 2)
other_kind k h = (λ e. grind (arith, nat_tests), λ e. grind (arith, nat_tests))

module _ (xs : List ℕ) (small : Bytes xs) where
  abbrev here : ℕ → Block
  here at = record { kind = le4 xs at; payload = payload xs at }

  block_back : (at : ℕ) → past xs at ≤ length xs → Sized (here at) × (drop at xs ≡ block_bytes (here at) ++ drop (past xs at) xs)
  unfolding block_bytes
  block_back at h =
      let n = le8 xs (at + 4) in
      let e : length (take n (drop (at + 12) xs)) ≡ n = length-take-le n (drop (at + 12) xs) (simp length-drop (omega arith)) in
      let b : drop (at + 4) xs ≡ little 8 n ++ drop (at + 12) xs = rw add_assoc at (eight_back xs small (at + 4) (omega arith)) in
      let c : drop (at + 12) xs ≡ take n (drop (at + 12) xs) ++ drop (past xs at) xs = parted n (at + 12) xs in
      let l : length (payload xs at) < 2 ^ 64 = omega (arith, e, le8_lt xs small (at + 4)) in
      ((le4_lt xs small at, l), simp (append_assoc, e) (four_back xs small at (omega arith) ∙ ap (λ l. little 4 (le4 xs at) ++ l) (b ∙ ap (λ l. little 8 n ++ l) c)))

  rest_back : (n at : ℕ) → framed xs n at ≡ None → others xs n at ≡ None
      → (ss : List Block) × (length ss ≡ n) × AllByRecursion Sized ss × AllByRecursion Apart ss × (drop at xs ≡ blocks_bytes ss)
  unfolding framed others blocks_bytes
  rest_back zero at f o = ([], refl, tt, tt, ap (λ n. drop n xs) (eqb-true at (length xs) (passed (eqb at (length xs)) None 8 at f).0) ∙ drop-length xs)
  rest_back (suc n) at f o =
      let pf = passed (leb (past xs at) (length xs)) (framed xs n (past xs at)) 8 at f in
      let po = passed (eqb (le4 xs at) 0 || leb 3 (le4 xs at)) (others xs n (past xs at)) 8 at o in
      let b = block_back at (leb-true (past xs at) (length xs) pf.0) in
      let t = other_kind (le4 xs at) po.0 in
      let more = rest_back n (past xs at) pf.1 po.1 in
      (here at ∷ more.0, ap suc more.1, (b.0, more.2), (t, more.3), b.1 ∙ ap (λ l. block_bytes (here at) ++ l) more.4)

  kinds_back : kinds xs ≡ None → (le4 xs 12 ≡ 1) × (le4 xs (past xs 12) ≡ 2) × (others xs (le4 xs 8 - 2) (past xs (past xs 12)) ≡ None)
  unfolding kinds
  kinds_back e =
      let p1 = passed (eqb (le4 xs 12) 1) (check (eqb (le4 xs (past xs 12)) 2) 8 (past xs 12) (others xs (le4 xs 8 - 2) (past xs (past xs 12)))) 8 12 e in
      let p2 = passed (eqb (le4 xs (past xs 12)) 2) (others xs (le4 xs 8 - 2) (past xs (past xs 12))) 8 (past xs 12) p1.1 in
      (eqb-true (le4 xs 12) 1 p1.0, eqb-true (le4 xs (past xs 12)) 2 p2.0, p2.1)

  start_back : (m v : ℕ) → started m v xs ≡ None → (2 ≤ le4 xs 8) × (xs ≡ little 4 m ++ (little 4 v ++ (little 4 (le4 xs 8) ++ drop 12 xs)))
  unfolding started
  start_back m v e =
      let p1 = passed (leb 4 (length xs) && eqb (le4 xs 0) m) (check (leb 8 (length xs) && eqb (le4 xs 4) v) 8 4 (check (leb 12 (length xs) && leb 2 (le4 xs 8)) 8 8 None)) 8 0 e in
      let p2 = passed (leb 8 (length xs) && eqb (le4 xs 4) v) (check (leb 12 (length xs) && leb 2 (le4 xs 8)) 8 8 None) 8 4 p1.1 in
      let p3 = passed (leb 12 (length xs) && leb 2 (le4 xs 8)) None 8 8 p2.1 in
      let n = and_parts (leb 12 (length xs)) (leb 2 (le4 xs 8)) p3.0 in
      let l : 12 ≤ length xs = leb-true 12 (length xs) n.0 in
      let f0 : xs ≡ little 4 (le4 xs 0) ++ drop 4 xs = four_back xs small 0 (omega arith) in
      let f4 : drop 4 xs ≡ little 4 (le4 xs 4) ++ drop 8 xs = four_back xs small 4 (omega arith) in
      let f8 : drop 8 xs ≡ little 4 (le4 xs 8) ++ drop 12 xs = four_back xs small 8 (omega arith) in
      let magic : le4 xs 0 ≡ m = eqb-true (le4 xs 0) m (and_parts (leb 4 (length xs)) (eqb (le4 xs 0) m) p1.0).1 in
      let version : le4 xs 4 ≡ v = eqb-true (le4 xs 4) v (and_parts (leb 8 (length xs)) (eqb (le4 xs 4) v) p2.0).1 in
      (leb-true 2 (le4 xs 8) n.1, cc)

  pub consists : (m v : ℕ) → laid m v xs ≡ None → (ss : List Block) × Consists m v xs ss
  unfolding laid file_bytes blocks_bytes
  consists m v e =
      let t1 = then_both (started m v xs) (then (framed xs (le4 xs 8) 12) (kinds xs)) e in
      let t2 = then_both (framed xs (le4 xs 8) 12) (kinds xs) t1.1 in
      let s = start_back m v t1.0 in
      let k = kinds_back t2.1 in
      let f1 = framed_step xs (le4 xs 8) 12 (omega (arith, s.0)) t2.0 in
      let f2 = framed_step xs (le4 xs 8 - 1) (past xs 12) (omega (arith, s.0)) f1.1 in
      let j : le4 xs 8 - 1 - 1 ≡ le4 xs 8 - 2 = omega arith in
      let third = past xs (past xs 12) in
      let more = rest_back (le4 xs 8 - 2) third (rw j at f2.1) k.2 in
      let b1 = block_back 12 f1.0 in
      let b2 = block_back (past xs 12) f2.0 in
      let ss = here 12 ∷ (here (past xs 12) ∷ more.0) in
      let n : length ss ≡ le4 xs 8 = omega (arith, more.1, s.0) in
      let tail : drop 12 xs ≡ block_bytes (here 12) ++ (block_bytes (here (past xs 12)) ++ blocks_bytes more.0) =
      b1.1 ∙ ap (λ l. block_bytes (here 12) ++ l) (b2.1 ∙ ap (λ l. block_bytes (here (past xs 12)) ++ l) more.4) in (
        ss,
        record {
          bytes = s.1 ∙ ap (λ l. little 4 m ++ (little 4 v ++ l)) (ap (λ z. little 4 z ++ drop 12 xs) (sym n) ∙ ap (λ l. little 4 (length ss) ++ l) tail);
          count = omega (arith, n, le4_lt xs small 8);
          sizes = (b1.0, (b2.0, more.2));
          order = (k.0, k.1, more.3);
        },
      )

-- what the code's layout shows, as sections; and a file that is refused has none
pub shown : (m v : ℕ) (xs : List ℕ) (s : Layout) → m < 2 ^ 32 → v < 2 ^ 32 → Bytes xs → laid m v xs ≡ None → Holds xs s
    → (ss : List Block) × Consists m v xs ss × (section_of 1 ss ≡ Some s.header.bytes.now) × (section_of 2 ss ≡ Some s.body.bytes.now)
shown m v xs s a b small e h =
    let t = consists xs small m v e in
    let f = found m v xs a b t.0 t.1 in
    (t.0, t.1, rw h.header f.header, rw h.body f.body)

pub refused : (m v : ℕ) (xs : List ℕ) (f : ℕ × ℕ) → m < 2 ^ 32 → v < 2 ^ 32 → laid m v xs ≡ Some f → (ss : List Block) → ¬ Consists m v xs ss
refused m v xs f a b e ss ok = no_fault f (sym e ∙ (found m v xs a b ss ok).granted)
