-- The elements, worked out.
use Rattle.std.proofs.Common.{◌≡◌, ℕ, refl, ap, arith, lit<, lit≤}
use Rattle.field.specs.Operations.{power, root_of_order}
use Rattle.modular.specs.Field97.{only97}
use Rattle.quadratic.specs.Doubled.{both}
use Rattle.modular.specs.Field12289.{only12289}
use Rattle.worked.specs.Worked.{WorkedFields}

pub fields : WorkedFields
unfolding power root_of_order
fields = record {
  root_5 = (lit≤ tt, only97 _ _ refl);
  no_root_6 = lit< tt;
  root_6 = (lit≤ tt, both (only97 _ _ refl) (only97 _ _ refl));
  square = both (only97 _ _ refl) (only97 _ _ refl);
  θ_inverse = (λ e. let one : ◌≡◌ {A = ℕ} 1 0 = ap (λ x. x.b.value) e in omega arith, both (only97 _ _ refl) (only97 _ _ refl));
  inverse_11 = (λ e. let eleven : ◌≡◌ {A = ℕ} 11 0 = ap (λ x. x.value) e in omega arith, only12289 _ _ refl);
}
