-- The items of a part, one after another.
use Rattle.std.proofs.Common.{◌≡◌, ℕ, zero, suc, ◌/◌, ◌<◌, ◌≤◌, List, [], ◌∷◌, length, drop, sym, refl, ap, arith, length-drop}
use Rattle.frames.specs.Little.{le4, le8}
use Rattle.constraints.specs.declared.item.Item.{Item}
use Rattle.loading.specs.Rows.{items_in, items_of}

pub items_none : (ys : List ℕ) → length ys < 12 → items_of ys ≡ []
unfolding items_in
items_none ys h = let z : length ys / 12 ≡ 0 = omega arith in rw z

pub items_more : (ys zs : List ℕ) (i : Item) → 12 ≤ length ys → i.wire ≡ le4 ys 0 → i.coefficient ≡ le8 ys 4 → zs ≡ drop 12 ys → items_of ys ≡ i ∷ items_of zs
unfolding items_in
items_more ys zs i h w k e =
    let d = length-drop 12 ys in
    let z : length ys / 12 ≡ suc (length (drop 12 ys) / 12) = omega arith in
    let same : ◌≡◌ {A = Item} (record { wire = le4 ys 0; coefficient = le8 ys 4 }) i = λ j. record { wire = sym w j; coefficient = sym k j } in
    rw (z, e) (ap (λ x. x ∷ items_in (length (drop 12 ys) / 12) (drop 12 ys)) same)

pub length_items : (n : ℕ) (ys : List ℕ) → length (items_in n ys) ≡ n
unfolding items_in
length_items zero ys = refl
length_items (suc n) ys = ap suc (length_items n (drop 12 ys))
