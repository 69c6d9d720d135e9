use Rattle.std.proofs.Common.{◌≡◌, ℕ, ◌+◌, ◌*◌, List, length}
use Rattle.frames.specs.Little.{part}
use Rattle.constraints.specs.Opened.{items}
use Rattle.constraints.proofs.rows.check_items.Given as goal

-- in any file, what is left of the list are items, and their check is what the whole list's comes to
abbrev pub invariant-loop-item : goal.invariant-loop-item
invariant-loop-item l =
    (l.at + length l.item-iterator.rest.now ≡ l.from + length l.list)
    × ((xs : List ℕ) (n : ℕ) → length l.list ≡ 12 * n → l.list ≡ part xs l.from (12 * n)
    → (m : ℕ) × (length l.item-iterator.rest.now ≡ 12 * m) × (l.item-iterator.rest.now ≡ part xs l.at (12 * m))
    × (items xs l.header.wires l.header.prime n l.from ≡ items xs l.header.wires l.header.prime m l.at))
