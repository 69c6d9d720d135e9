-- The elements that reduced numbers stand for.
use Rattle.std.proofs.Common.{◌≡◌, ℕ, ◌-◌, ◌%◌, ◌^◌, ◌<◌, sym, ap, ◌∙◌}
use Rattle.std.proofs.Math.Nat.{mod-mod, zero-mod}
use Rattle.std.proofs.lemmas.Nat.{pow-mod}
use Rattle.field.specs.Operations.{root_of_order}
use Rattle.modular.specs.declared.residue.Residue.{Residue}
use Rattle.modular.specs.Residue.{only, element, operations}
use Rattle.modular.specs.Arithmetic.{Arithmetic}
use Rattle.modular.specs.Modular.{power_is}
use Rattle.modular.proofs.Laws.{residues}

pub reduced : {p : ℕ} (positive : 0 < p) (n : ℕ) → element p positive (n % p) ≡ element p positive n
reduced {p} positive n = only _ _ (mod-mod n p)

pub nonzero : {p : ℕ} (positive : 0 < p) (x : Residue p) → ¬ (x.value ≡ 0) → ¬ (x ≡ element p positive 0)
nonzero {p} positive x d e = d (ap (λ (y : Residue p). y.value) e ∙ zero-mod p)

pub reduced_root : {p top adicity : ℕ} (positive : 0 < p) → Arithmetic p top adicity → (e : ℕ)
    → element p positive (top ^ (2 ^ (adicity - e)) % p) ≡ root_of_order (operations p positive top adicity) e
unfolding root_of_order
reduced_root {p} {top} {adicity} positive a e =
    let n : ℕ = 2 ^ (adicity - e) in
    only _ _ (mod-mod (top ^ n) p ∙ sym (power_is (residues positive a) (element p positive top) n ∙ pow-mod top n p))
