-- Two lists of one length, taken in turn.
use Rattle.std.specs.Prelude.{ℕ, List, [], ◌∷◌}

-- the first at the even places, the second at the odd ones
unfoldable pub interleave : List ℕ → List ℕ → List ℕ
interleave [] ys = []
interleave (x ∷ xs) [] = []
interleave (x ∷ xs) (y ∷ ys) = x ∷ y ∷ interleave xs ys
