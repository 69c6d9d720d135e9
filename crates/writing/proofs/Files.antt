-- A file written section by section, and its length.
use Rattle.std.proofs.Common.{◌≡◌, refl, ℕ, ◌+◌, List, [], ◌∷◌, ◌++◌, length, append_assoc, arith, length-append}
use Rattle.frames.specs.Little.{little}
use Rattle.frames.specs.Sections.{Block, block_bytes, blocks_bytes, file_bytes}
use Rattle.frames.proofs.Bytes.{length_little}
use Rattle.writing.specs.Written.{Fills}
use Rattle.writing.specs.declared.writer.Writer.{Writer}
use Rattle.writing.proofs.Writers.{fills_none, fills_both, fills_same}

abbrev block : ℕ → List ℕ → Block
block kind payload = record { kind = kind; payload = payload }

-- a file's start, and its sections
pub fills_file : (x y z : Writer) (magic version n : ℕ) (ss : List Block) → length ss ≡ n
    → Fills x (little 4 magic ++ (little 4 version ++ little 4 n)) y → Fills y (blocks_bytes ss) z → Fills x (file_bytes magic version ss) z
unfolding file_bytes
fills_file x y z magic version n ss e p q =
    let whole : (little 4 magic ++ (little 4 version ++ little 4 n)) ++ blocks_bytes ss ≡ little 4 magic ++ (little 4 version ++ (little 4 (length ss) ++ blocks_bytes ss)) = rw e (simp append_assoc) in
    fills_same x z _ _ whole (fills_both x y z _ _ p q)

-- a section's head, its payload, and the sections behind it
pub fills_section : (x y z v : Writer) (kind size : ℕ) (payload : List ℕ) (ss : List Block) → length payload ≡ size
    → Fills x (little 4 kind ++ little 8 size) y → Fills y payload z → Fills z (blocks_bytes ss) v → Fills x (blocks_bytes (block kind payload ∷ ss)) v
unfolding blocks_bytes block_bytes
fills_section x y z v kind size payload ss e p q r =
    let whole : (little 4 kind ++ little 8 size) ++ (payload ++ blocks_bytes ss) ≡ (little 4 kind ++ (little 8 (length payload) ++ payload)) ++ blocks_bytes ss = rw e (simp append_assoc) in
    fills_same x v _ _ whole (fills_both x y v _ _ p (fills_both y z v _ _ q r))

pub fills_end : (x : Writer) → Fills x (blocks_bytes []) x
unfolding blocks_bytes
fills_end x = fills_none x

pub length_file : (magic version : ℕ) (ss : List Block) → length (file_bytes magic version ss) ≡ 12 + length (blocks_bytes ss)
unfolding file_bytes
length_file magic version ss =
    let b = little 4 (length ss) ++ blocks_bytes ss in
    omega (
      arith,
      length-append (little 4 magic) (little 4 version ++ b),
      length-append (little 4 version) b,
      length-append (little 4 (length ss)) (blocks_bytes ss),
      length_little 4 magic,
      length_little 4 version,
      length_little 4 (length ss),
    )

pub length_section : (kind : ℕ) (payload : List ℕ) (ss : List Block) → length (blocks_bytes (block kind payload ∷ ss)) ≡ 12 + length payload + length (blocks_bytes ss)
unfolding blocks_bytes block_bytes
length_section kind payload ss =
    let b = little 8 (length payload) ++ payload in
    omega (
      arith,
      length-append (little 4 kind ++ b) (blocks_bytes ss),
      length-append (little 4 kind) b,
      length-append (little 8 (length payload)) payload,
      length_little 4 kind,
      length_little 8 (length payload),
    )

pub length_end : length (blocks_bytes []) ≡ 0
unfolding blocks_bytes
length_end = refl
