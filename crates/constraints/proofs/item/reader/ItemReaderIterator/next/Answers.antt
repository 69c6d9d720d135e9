use Rattle.std.proofs.Common.{length, drop, refl, ap, ◌∙◌, arith}
use Rattle.frames.specs.Little.{le4, le8}
use Rattle.constraints.proofs.Handed.{item_first, no_item}
use Rattle.constraints.proofs.item.reader.ItemReaderIterator.next.Goals as goal

pub returns-in_err-wire-clause-steps : goal.returns-in_err-wire-clause-steps
returns-in_err-wire-clause-steps c =
    let h = c.in_err-wire.ensures in
    rw c.from_residual.ensures (record {
      bytes = (h, refl);
      items = λ is a e. let n = no_item is (omega (arith, h, ap length e)) in (n.0, e ∙ n.1);
    })

pub returns-clause-steps : goal.returns-clause-steps
returns-clause-steps c =
    let h = c.in_ok-wire.ensures in
    record {
      bytes = h;
      items = λ is a e.
          let n = item_first is a (omega (arith, h.0, ap length e)) _ (h.1 ∙ ap (λ z. le4 z 0) e) (h.2 ∙ ap (λ z. le8 z 4) e) in
          (n.0, h.3 ∙ ap (λ z. drop 12 z) e ∙ n.1);
    }
