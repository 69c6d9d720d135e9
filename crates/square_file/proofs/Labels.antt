-- Items and labels, one after another.
use Rattle.std.proofs.Common.{◌≡◌, ℕ, zero, suc, ◌+◌, ◌*◌, [], ◌∷◌, ◌++◌, length, refl, ap, append_assoc, add-one, arith, length-append}
use Rattle.frames.specs.Little.{little}
use Rattle.frames.proofs.Bytes.{length_little}
use Rattle.constraints.specs.declared.item.Item.{Item}
use Rattle.constraints.specs.Circuit.{item_bytes}
use Rattle.square_file.specs.SquareFile.{label_bytes}

pub items_first : (i : Item) (is : _) → item_bytes (i ∷ is) ≡ (little 4 i.wire ++ little 8 i.coefficient) ++ item_bytes is
unfolding item_bytes
items_first i is = simp append_assoc

pub no_items : item_bytes [] ≡ []
unfolding item_bytes
no_items = refl

pub labels_more : (n : ℕ) → label_bytes (n + 1) ≡ label_bytes n ++ little 8 n
unfolding label_bytes
labels_more n = ap label_bytes (add-one n)

pub no_labels : label_bytes 0 ≡ []
unfolding label_bytes
no_labels = refl

pub length_labels : (n : ℕ) → length (label_bytes n) ≡ 8 * n
unfolding label_bytes
length_labels zero = refl
length_labels (suc n) = omega (arith, length-append (label_bytes n) (little 8 n), length_little 8 n, length_labels n)
