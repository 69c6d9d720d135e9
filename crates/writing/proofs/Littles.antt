-- Numbers as their bytes.
use Rattle.std.proofs.Common.{◌≡◌, ℕ, ◌/◌, ◌%◌, [], ◌∷◌, ◌++◌, length, arith, length-append}
use Rattle.frames.specs.Little.{little}
use Rattle.frames.proofs.Bytes.{length_little}

pub little_four : (v : ℕ) → v % 256 ∷ (v / 256 % 256) ∷ (v / 65536 % 256) ∷ (v / 16777216 % 256) ∷ [] ≡ little 4 v
unfolding little
little_four v =
    let a : v / 65536 ≡ v / 256 / 256 = omega arith in
    let b : v / 16777216 ≡ v / 256 / 256 / 256 = omega arith in
    rw (a, b)

pub little_eight : (v : ℕ)
    → v % 256 ∷ (v / 256 % 256) ∷ (v / 65536 % 256) ∷ (v / 16777216 % 256) ∷ (v / 4294967296 % 256) ∷ (v / 1099511627776 % 256) ∷ (v / 281474976710656 % 256) ∷ (v / 72057594037927936 % 256) ∷ []
    ≡ little 8 v
unfolding little
little_eight v =
    let a : v / 65536 ≡ v / 256 / 256 = omega arith in
    let b : v / 16777216 ≡ v / 65536 / 256 = omega arith in
    let c : v / 4294967296 ≡ v / 16777216 / 256 = omega arith in
    let d : v / 1099511627776 ≡ v / 4294967296 / 256 = omega arith in
    let e : v / 281474976710656 ≡ v / 1099511627776 / 256 = omega arith in
    let f : v / 72057594037927936 ≡ v / 281474976710656 / 256 = omega arith in
    rw (f, e, d, c, b, a)

-- the length of an item, or of a section's head
pub length_pair : (v w : ℕ) → length (little 4 v ++ little 8 w) ≡ 12
length_pair v w = omega (arith, length-append (little 4 v) (little 8 w), length_little 4 v, length_little 8 w)

-- of a file's start
pub length_start : (u v w : ℕ) → length (little 4 u ++ (little 4 v ++ little 4 w)) ≡ 12
length_start u v w =
    omega (arith, length-append (little 4 u) (little 4 v ++ little 4 w), length-append (little 4 v) (little 4 w), length_little 4 u, length_little 4 v, length_little 4 w)
