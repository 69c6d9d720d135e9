-- The theory of specs/Theory.antt, for every field.
use Rattle.std.proofs.Common.{ℕ, ◌^◌, pow_pos}
use Rattle.field.specs.Operations.{Operations, power}
use Rattle.field.specs.Laws.{Laws}
use Rattle.transform.specs.Polynomial.{Root}
use Rattle.transform.specs.Theory.{Orthogonal, Theory}
use Rattle.transform.proofs.Powers.{power_turn}
use Rattle.transform.proofs.Roots.{chosen_root, chosen_nest, root_full, root_primitive, ones≢zero, power_sum_zero}
use Rattle.transform.proofs.Polynomials.{takes_exists, takes_unique, quotient_upper, quotient_values, values_quotient, takes_spread}

module _ {F : Type 0} {O : Operations F} (L : Laws O) where
  orthogonal : (e : ℕ) (ω : F) → Root O e ω → Orthogonal O e ω
  orthogonal e ω root =
      record {
        apart = root_primitive L e ω root;
        cancels = λ t p q. power_sum_zero L (2 ^ e) (power O ω t) (power_turn L (2 ^ e) ω (root_full L e ω root) t) (root_primitive L e ω root t p q);
        turns = root_full L e ω root;
        count = ones≢zero L e;
      }

  pub theory : Theory O
  theory =
      record {
        roots = chosen_root L;
        nest = chosen_nest L;
        orthogonal = orthogonal;
        interpolates = λ e ω root. record { exists = takes_exists L e ω root; once = takes_unique L e ω root };
        divides = λ e ω root u w su sw.
            record {
              exactly = ((λ q. quotient_values L e ω root u w su sw q.0 q.1), (λ agree. (_, values_quotient L e ω root u w su sw agree)));
              upper = λ h q. quotient_upper L (2 ^ e) (pow_pos e) u w h sw q;
            };
        spreads = takes_spread L;
      }
