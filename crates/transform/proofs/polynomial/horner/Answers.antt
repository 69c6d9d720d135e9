use Rattle.std.proofs.Common.{◌≡◌, List, [], ◌∷◌, ◌++◌, sym, ap, ◌∙◌, append_assoc, append-nil, rules}
use Rattle.std.specs.Slice.Iter.{iter_rest}
use Rattle.std.specs.Iterator.Adapters.{rev_source}
use Rattle.std.proofs.lemmas.List.{nil_from_length}
use Rattle.transform.specs.Polynomial.{value_at}
use Rattle.transform.proofs.Polynomials.{value_nil, value_step}
use Rattle.transform.proofs.polynomial.horner.Goals as goal

pub loop-c-init : goal.loop-c-init
loop-c-init g c = ([], append-nil _ ∙ search rules, c.zero-value.ensures ∙ sym (value_nil g.met.F.Field.laws c.args.x))

-- the last one still to come is the next one done
moved : {X : Type 0} (rest rest' done all : List X) (x : X) → rest ≡ rest' ++ (x ∷ []) → rest ++ done ≡ all → rest' ++ (x ∷ done) ≡ all
moved rest rest' done all x e h = sym (append_assoc rest' (x ∷ []) done) ∙ ap (λ t. t ++ done) (sym e) ∙ h

pub loop-c-preserved : goal.loop-c-preserved
loop-c-preserved g c =
    let next = c.in-Some.c.now in
    let before = c.loop-c.invariant in
    let rest = iter_rest (rev_source c.loop-c.c-iterator) in
    let rest' = iter_rest (rev_source c.next.new.self) in (
      next ∷ before.0,
      moved rest rest' before.0 c.args.coefficients.now next c.in-Some.ensures.steps before.1,
      value_step g.met.F.Field.laws next c.args.x c.loop-c.value c.mul.result c.add-value.result before.0 before.2 c.mul.ensures c.add-value.ensures,
    )

-- all are done
whole : {X Y : Type 0} (f : List X → Y) (rest done all : List X) (y : Y) → rest ≡ [] → rest ++ done ≡ all → y ≡ f done → y ≡ f all
whole f rest done all y none h e = e ∙ ap f (ap (λ t. t ++ done) (sym none) ∙ h)

pub returns : goal.returns
returns g c =
    let before = c.loop-c.invariant in
    let rest = iter_rest (rev_source c.loop-c.c-iterator) in
    whole (λ u. value_at g.F.Field.ops u c.args.x) rest before.0 c.args.coefficients.now c.loop-c.value (nil_from_length rest c.in-None.ensures.steps.0) before.1 before.2
