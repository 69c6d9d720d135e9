-- A file of values, from its values to its bytes and back.
use Rattle.std.proofs.Common.{◌≡◌, ℕ, zero, suc, ◌+◌, ◌-◌, ◌*◌, ◌^◌, ◌<◌, ◌≤◌, ◌&&◌, eqb, ltb, leb, List, [], ◌∷◌, ◌++◌, length, get_or, take, drop, Some, None, sym, refl, ap, ◌∙◌, append_assoc, append-nil, add-zero, arith, length-append, length-drop, take_at, ltb-true, eqb-true, leb-true}
use lib.Seq.{drop-length}
use Rattle.std.specs.List.{AllByRecursion}
use Rattle.std.proofs.lemmas.Bool.{and_parts}
use Rattle.frames.specs.Little.{little, le4, le8, part, Bytes}
use Rattle.frames.specs.Faults.{check, then}
use Rattle.frames.specs.Checks.{payload, laid, place_of}
use Rattle.frames.proofs.Faults.{passed, then_both, goes, no_fault}
use Rattle.frames.proofs.Bytes.{Rest, skip, four, eight, whole, length_little, take_small, drop_small, le8_lt, four_back, eight_back}
use Rattle.frames.proofs.Stands.{found, consists, there}
use Rattle.assignments.specs.Assigned.{magic, counted, values, valued, values_at, content, assigned}
use Rattle.assignments.specs.Assignment.{header_bytes, value_bytes, Encodes, ReadsExactly}
use Rattle.assignments.proofs.Walk.{head_right, valued_more, valued_done, first_one, room, length_values}

length_value_bytes : (vs : List ℕ) → length (value_bytes vs) ≡ length vs * 8
unfolding value_bytes
length_value_bytes [] = refl
length_value_bytes (v ∷ vs) = omega (arith, length-append (little 8 v) (value_bytes vs), length_little 8 v, length_value_bytes vs)

values_right : (xs : List ℕ) (p : ℕ) → p < 2 ^ 64 → (vs : List ℕ) (at : ℕ) (zs : List ℕ) → AllByRecursion (λ v. v < p) vs → Rest xs at (value_bytes vs ++ zs)
    → (valued xs p (length vs) at ≡ None) × (values xs (length vs) at ≡ vs)
unfolding value_bytes values
values_right xs p small [] at zs a r = (valued_done xs p at, refl)
values_right xs p small (v ∷ vs) at zs a r =
    let q : Rest xs at (little 8 v ++ (value_bytes vs ++ zs)) = simp append_assoc at r in
    let e = eight xs at v _ (omega (arith, a.0)) q in
    let m = values_right xs p small vs (at + 8) zs a.1 (skip xs at 8 _ _ (length_little 8 v) q) in
    let k : suc (length vs) - 1 ≡ length vs = omega arith in
    (valued_more xs p (suc (length vs)) at (omega arith) (omega (arith, e, a.0)) ∙ rw k m.0, rw (e, m.1))

first_value : (xs : List ℕ) (n at : ℕ) → 1 ≤ n → get_or (values xs n at) 0 0 ≡ le8 xs at
unfolding values
first_value xs zero at h = absurd (omega (arith, h))
first_value xs (suc n) at h = refl

-- what a header says
pub record Says (hs : List ℕ) (p n : ℕ) : Type 0 where
  pub long : length hs ≡ 16
  pub size : le4 hs 0 ≡ 8
  pub prime : le8 hs 4 ≡ p
  pub count : le4 hs 12 ≡ n

says : (p n : ℕ) → p < 2 ^ 64 → n < 2 ^ 32 → Says (header_bytes p n) p n
unfolding header_bytes
says p n a b =
    let hs = header_bytes p n in
    let r0 = whole hs in
    let r4 = skip hs 0 4 _ _ (length_little 4 8) r0 in
    let r12 = skip hs 4 8 _ _ (length_little 8 p) r4 in
    let e12 : Rest hs 12 (little 4 n ++ []) = simp append-nil r12 in
    record {
      long = omega (arith, r12.size, length_little 4 n);
      size = four hs 0 8 _ (omega arith) r0;
      prime = eight hs 4 p _ a r4;
      count = four hs 12 n _ b e12;
    }

module _ (xs : List ℕ) (p n : ℕ) where
  pub encodes_read : (vs : List ℕ) → Encodes xs p n vs → (assigned xs p n ≡ None) × (values xs n (values_at xs) ≡ vs)
  unfolding content
  encodes_read vs ok =
      let f = found magic 2 xs (omega arith) (omega arith) ok.sections ok.file in
      let head : payload xs (place_of xs 1) ≡ header_bytes p n = let a = f.header in let b = ok.header in cc in
      let body : payload xs (place_of xs 2) ≡ value_bytes vs = let a = f.body in let b = ok.body in cc in
      let t = there xs (place_of xs 2) f.body_fits in
      let stop = values_at xs + length (payload xs (place_of xs 2)) in
      let rest : Rest xs (values_at xs) (value_bytes vs ++ drop stop xs) =
      record { here = t.here ∙ ap (λ z. z ++ drop stop xs) body; size = omega (arith, length-append (value_bytes vs) (drop stop xs), length-drop stop xs, t.within, ap length body) } in
      let v = values_right xs p ok.prime vs (values_at xs) _ ok.below rest in
      let w : values xs n (values_at xs) ≡ vs = rw ok.count at v.1 in
      let d : valued xs p n (values_at xs) ≡ None = rw ok.count at v.0 in
      let one : le8 xs (values_at xs) ≡ 1 = sym (first_value xs n (values_at xs) ok.some) ∙ ap (λ l. get_or l 0 0) w ∙ ok.first in
      let h = says p n ok.prime (omega (arith, ok.room)) in
      let size : length (payload xs (place_of xs 2)) ≡ le4 (header_bytes p n) 12 * 8 = omega (arith, ap length body, length_value_bytes vs, ok.count, h.count) in
      let c : counted (payload xs (place_of xs 1)) (place_of xs 1 + 12) (length (payload xs (place_of xs 2))) (values_at xs) p n ≡ None =
      rw head (head_right (header_bytes p n) (place_of xs 1 + 12) (length (payload xs (place_of xs 2))) (values_at xs) p n h.long h.size size h.prime h.count) in
      (room xs p n ok.some ok.room ∙ goes _ _ f.granted ∙ goes _ _ c ∙ first_one xs (values_at xs) _ one ∙ d, w)

header_back : (hs : List ℕ) (at size to p n : ℕ) → Bytes hs → counted hs at size to p n ≡ None → (hs ≡ header_bytes p n) × (size ≡ n * 8) × (p < 2 ^ 64)
unfolding counted header_bytes
header_back hs at size to p n small e =
    let c5 = check (eqb (le4 hs 12) n) 11 (at + 12) None in
    let c4 = check (eqb (le8 hs 4) p) 9 (at + 4) c5 in
    let c3 = check (eqb size (le4 hs 12 * 8)) 8 to c4 in
    let c2 = check (eqb (le4 hs 0) 8) 8 at c3 in
    let p1 = passed (eqb (length hs) 16) c2 8 at e in
    let p2 = passed (eqb (le4 hs 0) 8) c3 8 at p1.1 in
    let p3 = passed (eqb size (le4 hs 12 * 8)) c4 8 to p2.1 in
    let p4 = passed (eqb (le8 hs 4) p) c5 9 (at + 4) p3.1 in
    let p5 = passed (eqb (le4 hs 12) n) None 11 (at + 12) p4.1 in
    let l : length hs ≡ 16 = eqb-true (length hs) 16 p1.0 in
    let f0 : hs ≡ little 4 (le4 hs 0) ++ drop 4 hs = four_back hs small 0 (omega arith) in
    let f4 : drop 4 hs ≡ little 8 (le8 hs 4) ++ drop 12 hs = eight_back hs small 4 (omega arith) in
    let f12 : drop 12 hs ≡ little 4 (le4 hs 12) ++ drop 16 hs = four_back hs small 12 (omega arith) in
    let f16 : drop 16 hs ≡ [] = ap (λ k. drop k hs) (sym l) ∙ drop-length hs in
    let s0 : le4 hs 0 ≡ 8 = eqb-true (le4 hs 0) 8 p2.0 in
    let s4 : le8 hs 4 ≡ p = eqb-true (le8 hs 4) p p4.0 in
    let s12 : le4 hs 12 ≡ n = eqb-true (le4 hs 12) n p5.0 in
    let last : little 4 (le4 hs 12) ++ [] ≡ little 4 (le4 hs 12) = append-nil (little 4 (le4 hs 12)) in
    (cc, omega (arith, eqb-true size (le4 hs 12 * 8) p3.0, s12), omega (arith, s4, le8_lt hs small 4))

module _ (xs : List ℕ) (small : Bytes xs) where
  values_back : (n at : ℕ) → at + n * 8 ≤ length xs → drop at xs ≡ value_bytes (values xs n at) ++ drop (at + n * 8) xs
  unfolding values value_bytes
  values_back zero at h = rw add-zero
  values_back (suc n) at h =
      let k : at + 8 + n * 8 ≡ at + suc n * 8 = omega arith in
      let m : drop (at + 8) xs ≡ value_bytes (values xs n (at + 8)) ++ drop (at + suc n * 8) xs = rw k at (values_back n (at + 8) (omega arith)) in
      simp append_assoc (eight_back xs small at (omega arith) ∙ ap (λ l. little 8 (le8 xs at) ++ l) m)

  values_below : (p n at : ℕ) → valued xs p n at ≡ None → AllByRecursion (λ v. v < p) (values xs n at)
  unfolding values valued
  values_below p zero at e = tt
  values_below p (suc n) at e =
      let t = passed (ltb (le8 xs at) p) (valued xs p n (at + 8)) 10 at e in
      (ltb-true (le8 xs at) p t.0, values_below p n (at + 8) t.1)

  pub read_encodes : (p n : ℕ) → assigned xs p n ≡ None → Encodes xs p n (values xs n (values_at xs))
  unfolding assigned content
  read_encodes p n e =
      let hs = payload xs (place_of xs 1) in
      let at = values_at xs in
      let c4 = check (eqb (le8 xs at) 1) 10 at (valued xs p n at) in
      let c3 = counted hs (place_of xs 1 + 12) (length (payload xs (place_of xs 2))) at p n in
      let p0 = passed (leb 1 n && leb n 3072) (content xs p n) 5 0 e in
      let t1 = then_both (laid magic 2 xs) (then c3 c4) p0.1 in
      let t2 = then_both c3 c4 t1.1 in
      let p3 = passed (eqb (le8 xs at) 1) (valued xs p n at) 10 at t2.1 in
      let b = and_parts (leb 1 n) (leb n 3072) p0.0 in
      let ss = consists xs small magic 2 t1.0 in
      let f = found magic 2 xs (omega arith) (omega arith) ss.0 ss.1 in
      let hsmall : Bytes hs = take_small (le8 xs (place_of xs 1 + 4)) (drop (place_of xs 1 + 12) xs) (drop_small (place_of xs 1 + 12) xs small) in
      let h = header_back hs (place_of xs 1 + 12) (length (payload xs (place_of xs 2))) at p n hsmall t2.0 in
      let t = there xs (place_of xs 2) f.body_fits in
      let y = values_back n at (omega (arith, t.within, h.1)) in
      let size : le8 xs (place_of xs 2 + 4) ≡ n * 8 = sym t.size ∙ h.1 in
      let l : length (value_bytes (values xs n at)) ≡ n * 8 = omega (arith, length_value_bytes (values xs n at), length_values xs n at) in
      let body : payload xs (place_of xs 2) ≡ value_bytes (values xs n at) =
      ap (λ k. part xs at k) size ∙ ap (λ z. take (n * 8) z) y ∙ take_at (value_bytes (values xs n at)) (drop (at + n * 8) xs) (n * 8) l in
      let one : 1 ≤ n = leb-true 1 n b.0 in
      record {
        sections = ss.0;
        file = ss.1;
        header = f.header ∙ ap Some h.0;
        body = f.body ∙ ap Some body;
        prime = h.2;
        count = length_values xs n at;
        some = one;
        room = leb-true n 3072 b.1;
        first = first_value xs n at one ∙ eqb-true (le8 xs at) 1 p3.0;
        below = values_below p n at p3.1;
      }

pub never : (xs : List ℕ) (p n : ℕ) (f : ℕ × ℕ) → assigned xs p n ≡ Some f → (vs : List ℕ) → ¬ Encodes xs p n vs
never xs p n f e vs ok = no_fault f (sym e ∙ (encodes_read xs p n vs ok).0)

pub reads_exactly_lem : ReadsExactly
reads_exactly_lem xs p n small = (
  λ e. (values xs n (values_at xs), read_encodes xs small p n e),
  λ vs ok. (encodes_read xs p n vs ok).0,
  λ vs ws f g. sym (encodes_read xs p n vs f).1 ∙ (encodes_read xs p n ws g).1,
)
