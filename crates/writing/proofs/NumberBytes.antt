-- The numbers of elements, one after another.
use Rattle.std.proofs.Common.{◌≡◌, ℕ, ◌+◌, ◌*◌, ◌<◌, ◌≤◌, List, [], ◌∷◌, ◌++◌, length, get_or, take, sym, refl, ap, ◌∙◌, append_assoc, append-nil, arith, length-append, length-take-le}
use Rattle.std.proofs.lemmas.List.{take_more}
use Rattle.field.specs.Operations.{Operations}
use Rattle.frames.specs.Little.{little}
use Rattle.frames.proofs.Bytes.{length_little}
use Rattle.writing.specs.Plain.{numbered, number_bytes}

module _ {F : Type 0} (O : Operations F) (p : ℕ) where
  pub no_numbers : number_bytes O p [] ≡ []
  unfolding number_bytes
  no_numbers = refl

  pub length_numbers : (xs : List F) → length (number_bytes O p xs) ≡ 8 * length xs
  unfolding number_bytes
  length_numbers [] = refl
  length_numbers (x ∷ xs) = omega (arith, length-append (little 8 (numbered O p x)) (number_bytes O p xs), length_little 8 (numbered O p x), length_numbers xs)

  pub length_front : (xs : List F) (i : ℕ) → i ≤ length xs → length (number_bytes O p (take i xs)) ≡ 8 * i
  length_front xs i h = length_numbers (take i xs) ∙ ap (λ n. 8 * n) (length-take-le i xs h)

  numbers_push : (xs : List F) (x : F) → number_bytes O p (xs ++ x ∷ []) ≡ number_bytes O p xs ++ little 8 (numbered O p x)
  unfolding number_bytes
  numbers_push [] x = append-nil (little 8 (numbered O p x))
  numbers_push (y ∷ xs) x = rw (numbers_push xs x) (simp append_assoc)

  -- one number more
  pub numbers_more : (xs : List F) (i : ℕ) (x : F) → i < length xs → x ≡ get_or xs i x
      → number_bytes O p (take (i + 1) xs) ≡ number_bytes O p (take i xs) ++ little 8 (numbered O p x)
  numbers_more xs i x h e =
      ap (number_bytes O p) (take_more xs i x h) ∙ numbers_push (take i xs) (get_or xs i x)
      ∙ ap (λ y. number_bytes O p (take i xs) ++ little 8 (numbered O p y)) (sym e)
