-- What appending comes to.
use Rattle.std.proofs.Common.{◌≡◌, refl, ℕ, ◌+◌, ◌≤◌, List, [], ◌++◌, length, take, drop, sym, ap, ◌∙◌, append_assoc, append-nil, add-zero, arith, length-append, length-drop, length-take-le, take-append-drop, drop-drop, take_at, drop_at}
use Rattle.std.proofs.lemmas.List.{take-append-le, drop-append-le}
use Rattle.writing.specs.Put.{Put}
use Rattle.writing.specs.Written.{written, rest, Appends, Fills, Overwrites}
use Rattle.writing.specs.declared.writer.Writer.{Writer}

module _ (a b ys : List ℕ) (at : ℕ) (h : at + length ys ≤ length a) (p : Put a at ys b) where
  whole : b ≡ (take at a ++ ys) ++ drop (at + length ys) a
  whole = rw append_assoc p

  reach : length (take at a ++ ys) ≡ at + length ys
  reach = let l : length (take at a) ≡ at = length-take-le at a (omega arith) in length-append (take at a) ys ∙ rw l

  pub put_written : take (at + length ys) b ≡ take at a ++ ys
  put_written = ap (λ z. take (at + length ys) z) whole ∙ take_at (take at a ++ ys) (drop (at + length ys) a) (at + length ys) reach

  pub put_behind : drop (at + length ys) b ≡ drop (length ys) (drop at a)
  put_behind = ap (λ z. drop (at + length ys) z) whole ∙ drop_at (take at a ++ ys) (drop (at + length ys) a) (at + length ys) reach ∙ sym (drop-drop (length ys) at a)

pub put_none : (a : List ℕ) (at : ℕ) → Put a at [] a
put_none a at = rw add-zero (sym (take-append-drop at a))

pub put_same : (a b ys zs : List ℕ) (at : ℕ) → ys ≡ zs → Put a at ys b → Put a at zs b
put_same a b ys zs at e p = rw e at p

-- the second bytes right behind the first
pub put_both : (a b c ys zs : List ℕ) (at n : ℕ) → length ys ≡ n → at + n ≤ length a → Put a at ys b → Put b (at + n) zs c → Put a at (ys ++ zs) c
put_both a b c ys zs at n e h p q =
    let room : at + length ys ≤ length a = omega arith in
    let t : take (at + n) b ≡ take at a ++ ys = rw (← e) (put_written a b ys at room p) in
    let k : drop (at + n + length zs) b ≡ drop (at + length (ys ++ zs)) a =
    sym (drop-drop (length zs) (at + n) b) ∙ ap (λ m. drop (length zs) (drop (at + m) b)) (sym e) ∙ ap (λ z. drop (length zs) z) (put_behind a b ys at room p)
    ∙ ap (λ z. drop (length zs) z) (drop-drop (length ys) at a) ∙ drop-drop (length zs) (at + length ys) a ∙ ap (λ z. drop z a) (omega (arith, length-append ys zs)) in
    q ∙ rw (t, k) (simp append_assoc)

-- what is put over a part of the front changes the front so, and nothing behind it
module _ (a b ys : List ℕ) (at n : ℕ) (h : at + length ys ≤ n) (m : n ≤ length a) (p : Put a at ys b) where
  abbrev over : List ℕ
  over = take at (take n a) ++ (ys ++ drop (at + length ys) (take n a))

  over_length : length over ≡ n
  over_length =
      let l = length-take-le n a m in
      omega (
        arith,
        l,
        length-append (take at (take n a)) (ys ++ drop (at + length ys) (take n a)),
        length-append ys (drop (at + length ys) (take n a)),
        length-take-le at (take n a) (omega arith),
        length-drop (at + length ys) (take n a),
      )

  over_whole : b ≡ over ++ drop n a
  over_whole =
      let l = length-take-le n a m in
      let first = take-append-le at (take n a) (drop n a) (omega arith) in
      let last = drop-append-le (at + length ys) (take n a) (drop n a) (omega arith) in
      p ∙ ap (λ z. take at z ++ (ys ++ drop (at + length ys) z)) (sym (take-append-drop n a)) ∙ rw (first, last) (simp append_assoc)

  pub put_front : Put (take n a) at ys (take n b)
  put_front = ap (λ z. take n z) over_whole ∙ take_at over (drop n a) n over_length

  pub put_rest : drop n b ≡ drop n a
  put_rest = ap (λ z. drop n z) over_whole ∙ drop_at over (drop n a) n over_length

-- the same place, however the code comes by it
pub put_moved : (a b ys : List ℕ) {i at : ℕ} → Put a i ys b → i ≡ at → Put a at ys b
put_moved a b ys p e = rw e at p

-- a part copied, wherever it is said to begin and however long
pub copied_from : (z a : List ℕ) (to i m from n : ℕ) → z ≡ take to a ++ take m (drop i a) ++ drop (to + m) a → i ≡ from → m ≡ n
    → z ≡ take to a ++ take n (drop from a) ++ drop (to + n) a
copied_from z a to i m from n p e f = rw (e, f) at p

-- what is written then, and what is left, wherever the code says that it ends
pub put_up_to : (a b ys : List ℕ) (at to : ℕ) → to ≡ at + length ys → at + length ys ≤ length a → Put a at ys b
    → (take to b ≡ take at a ++ ys) × (drop to b ≡ drop (length ys) (drop at a))
put_up_to a b ys at to e room p = rw e (put_written a b ys at room p, put_behind a b ys at room p)

pub appends_none : (w : Writer) → Appends w [] w
appends_none w = record { buffer = refl; text = sym (append-nil (written w)); behind = refl }

-- one after another
pub appends_both : (x y z : Writer) (ys zs : List ℕ) → Appends x ys y → Appends y zs z → Appends x (ys ++ zs) z
appends_both x y z ys zs p q = record {
  buffer = q.buffer ∙ p.buffer;
  text = q.text ∙ ap (λ t. t ++ zs) p.text ∙ append_assoc (written x) ys zs;
  behind = q.behind ∙ ap (λ t. drop (length zs) t) p.behind ∙ drop-drop (length zs) (length ys) (rest x) ∙ ap (λ n. drop n (rest x)) (sym (length-append ys zs));
}

pub appends_same : (x y : Writer) (ys zs : List ℕ) → ys ≡ zs → Appends x ys y → Appends x zs y
appends_same x y ys zs e p = rw e at p

-- bytes of which the first are put over later
pub appends_over : (x y z : Writer) (us ys zs : List ℕ) → length us ≡ length ys → Appends x (us ++ zs) y → Overwrites y (length (written x)) ys z → Appends x (ys ++ zs) z
appends_over x y z us ys zs e p q =
    let all = length-append us zs in
    let size = ap length p.text ∙ length-append (written x) (us ++ zs) in
    let r = q.0 (omega arith) in
    let first : take (length (written x)) (written y) ≡ written x = ap (λ t. take (length (written x)) t) p.text ∙ take_at (written x) (us ++ zs) _ refl in
    let place : length (written x ++ us) ≡ length (written x) + length ys = length-append (written x) us ∙ rw e in
    let last : drop (length (written x) + length ys) (written y) ≡ zs =
    ap (λ t. drop (length (written x) + length ys) t) (p.text ∙ sym (append_assoc (written x) us zs)) ∙ drop_at (written x ++ us) zs _ place in
    record {
      buffer = r.buffer ∙ p.buffer;
      text = r.text ∙ rw (first, last);
      behind = r.behind ∙ p.behind ∙ ap (λ n. drop n (rest x)) (omega (arith, length-append ys zs));
    }

-- ── Where there is room ──

pub fills_none : (w : Writer) → Fills w [] w
fills_none w = λ _. appends_none w

-- one after another; the room for both is room for each
pub fills_both : (x y z : Writer) (ys zs : List ℕ) → Fills x ys y → Fills y zs z → Fills x (ys ++ zs) z
fills_both x y z ys zs p q = λ room.
    let all = length-append ys zs in
    let first = p (omega arith) in
    let left = ap length first.behind ∙ length-drop (length ys) (rest x) in
    appends_both x y z ys zs first (q (omega arith))

pub fills_over : (x y z : Writer) (us ys zs : List ℕ) → length us ≡ length ys → Fills x (us ++ zs) y → Overwrites y (length (written x)) ys z → Fills x (ys ++ zs) z
fills_over x y z us ys zs e p q = λ room. appends_over x y z us ys zs e (p (omega (arith, length-append us zs, length-append ys zs))) q

-- the same bytes once more
pub fills_again : (x y z : Writer) (ys : List ℕ) (from : ℕ) → from ≡ length (written x) → Fills x ys y → Fills y (drop from (written y)) z → Fills x (ys ++ ys) z
fills_again x y z ys from e p q = λ room.
    let text = (p (omega (arith, length-append ys ys))).text in
    let same : drop from (written y) ≡ ys = ap (λ t. drop from t) text ∙ drop_at (written x) ys from (sym e) in
    let second : Fills y ys z = rw same at q in
    fills_both x y z ys ys p second room

pub fills_same : (x y : Writer) (ys zs : List ℕ) → ys ≡ zs → Fills x ys y → Fills x zs y
fills_same x y ys zs e p = rw e at p

-- from a fresh writer on: the bytes, and what stood behind them in the buffer
pub appends_all : (x y : Writer) (ys old : List ℕ) → written x ≡ [] → rest x ≡ old → Appends x ys y → y.buffer.now ≡ ys ++ drop (length ys) old
appends_all x y ys old e r p =
    sym (take-append-drop y.len y.buffer.now)
    ∙ ap (λ t. t ++ rest y) (p.text ∙ ap (λ t. t ++ ys) e)
    ∙ ap (λ t. ys ++ t) (p.behind ∙ ap (λ t. drop (length ys) t) r)
