-- The number of an element: which multiple of one it is. An element outside the prime field has none.
use Rattle.std.specs.Prelude.{ℕ, zero, suc, Bool, is_some, None, Option, List, [], ◌∷◌, ◌++◌}
use Rattle.std.specs.Option.{unwrap_or, option_or}
use Rattle.std.specs.Bool.{then_some}
use Rattle.field.specs.Operations.{Operations, decided, ones}
use Rattle.frames.specs.Little.{little}

module _ {F : Type 0} (O : Operations F) where
  -- the least v below p of which the element is the v-fold sum of one
  unfoldable pub plain : ℕ → F → Option ℕ
  plain zero x = None
  plain (suc v) x = option_or (plain v x) (then_some (decided (O.same x (ones O v))) v)

  -- that number, and 0 where there is none
  unfoldable pub numbered : ℕ → F → ℕ
  numbered p x = unwrap_or (plain p x) 0

  unfoldable pub is_plain : ℕ → F → Bool
  is_plain p x = is_some (plain p x)

  -- the numbers of elements, 8 bytes each
  unfoldable pub number_bytes : ℕ → List F → List ℕ
  number_bytes p [] = []
  number_bytes p (x ∷ xs) = little 8 (numbered p x) ++ number_bytes p xs
