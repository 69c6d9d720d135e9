-- What the case of a section says of its kind.
use Rattle.std.proofs.Common.{◌≡◌, ℕ, ◌⊎◌, List, refl, inl, inr, arith, Bor}
use Rattle.frames.specs.Shown.{Shows}
use Rattle.frames.specs.declared.section.Section.{Section}
use Rattle.frames.specs.declared.section.Section.TheVariants.{Header, Body, Other}

pub not_header : (s : Section) (k : ℕ) (bs : List ℕ) → Shows s k bs → ((p : Bor (List ℕ)) → s ≡ Header p → ⊥) → k ≡ 1 → ⊥
not_header (Header p) k bs h n e = n p refl
not_header (Body p) k bs h n e = omega arith
not_header (Other j p) k bs h n e = h.2 e

pub not_body : (s : Section) (k : ℕ) (bs : List ℕ) → Shows s k bs → ((p : Bor (List ℕ)) → s ≡ Body p → ⊥) → k ≡ 2 → ⊥
not_body (Header p) k bs h n e = omega arith
not_body (Body p) k bs h n e = n p refl
not_body (Other j p) k bs h n e = h.3 e

pub named : (s : Section) (k : ℕ) (bs : List ℕ) → Shows s k bs → ((n : ℕ) (p : Bor (List ℕ)) → s ≡ Other n p → ⊥) → (k ≡ 1) ⊎ (k ≡ 2)
named (Header p) k bs h n = inl h.0
named (Body p) k bs h n = inr h.0
named (Other j p) k bs h n = absurd (n j p refl)
