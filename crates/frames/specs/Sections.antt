-- What a file is: a start, and sections in frames, which are looked up by their kinds.
use Rattle.std.specs.Prelude.{◌≡◌, ℕ, ◌^◌, ◌<◌, cond, List, [], ◌∷◌, ◌++◌, length, Some, None, Option, ◌==◌}
use Rattle.std.specs.List.{AllByRecursion}
use Rattle.frames.specs.Little.{little}

-- a section
pub record Block : Type 0 where
  pub kind : ℕ
  pub payload : List ℕ

-- its kind, its size and its payload
unfoldable pub block_bytes : Block → List ℕ
block_bytes s = little 4 s.kind ++ (little 8 (length s.payload) ++ s.payload)

unfoldable pub blocks_bytes : List Block → List ℕ
blocks_bytes [] = []
blocks_bytes (s ∷ ss) = block_bytes s ++ blocks_bytes ss

unfoldable pub file_bytes : ℕ → ℕ → List Block → List ℕ
file_bytes magic version ss = little 4 magic ++ (little 4 version ++ (little 4 (length ss) ++ blocks_bytes ss))

-- the payload of the first section of a kind
abbrev pub section_of : ℕ → List Block → Option (List ℕ)
section_of kind [] = None
section_of kind (s ∷ ss) = cond (s.kind == kind) (Some s.payload) (section_of kind ss)

-- kind 1 first, kind 2 second, and neither of them later
abbrev pub Ordered : List Block → Type 0
Ordered [] = ⊥
Ordered (h ∷ []) = ⊥
Ordered (h ∷ (b ∷ ss)) = (h.kind ≡ 1) × (b.kind ≡ 2) × AllByRecursion (λ s. ¬ (s.kind ≡ 1) × ¬ (s.kind ≡ 2)) ss

-- the bytes are those of these sections, each number small enough for its bytes
pub record Consists (magic version : ℕ) (xs : List ℕ) (ss : List Block) : Type 0 where
  pub bytes : xs ≡ file_bytes magic version ss
  pub count : length ss < 2 ^ 32
  pub sizes : AllByRecursion (λ s. (s.kind < 2 ^ 32) × (length s.payload < 2 ^ 64)) ss
  pub order : Ordered ss
