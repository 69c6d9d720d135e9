use Rattle.std.proofs.Common.{◌≡◌, refl, ◌+◌, ◌-◌, ◌≤◌, ◌++◌, length, take, drop, sym, ap, ◌∙◌, append_assoc, arith, length-drop, length-take-le}
use Rattle.std.proofs.lemmas.List.{drop-take}
use Rattle.writing.specs.Put.{Put}
use Rattle.writing.proofs.Writers.{copied_from, put_written, put_behind}
use Rattle.writing.proofs.writer.Writer.put_again.Goals as goal

pub returns-then-self-from : goal.returns-then-self-from
returns-then-self-from c =
    let w = c.args.self.now in
    let a = w.buffer.now in
    let z = c.copy_within.new.self in
    let n = w.len - c.args.from in
    let ys = drop c.args.from (take w.len a) in
    let room = length-drop w.len a in
    let size : length ys ≡ n = length-drop c.args.from (take w.len a) ∙ ap (λ k. k - c.args.from) (length-take-le w.len a w.inside) in
    let fits : w.len + length ys ≤ length a = omega (arith, w.inside) in
    let part : take n (drop c.args.from a) ≡ ys =
    sym (drop-take c.args.from n a) ∙ ap (λ k. drop c.args.from (take k a)) (omega arith) in
    let moved : z ≡ take w.len a ++ take n (drop c.args.from a) ++ drop (w.len + n) a = copied_from z a _ _ _ c.args.from n c.copy_within.ensures.after (omega arith) (omega arith) in
    let p : Put a w.len ys z = moved ∙ rw (part, size) (append_assoc (take w.len a) ys (drop (w.len + n) a)) in (
      λ _. record {
        buffer = refl;
        text = ap (λ k. take (w.len + k) z) (sym size) ∙ put_written a z ys w.len fits p;
        behind = ap (λ k. drop (w.len + k) z) (sym size) ∙ put_behind a z ys w.len fits p;
      },
      λ h. absurd (omega arith),
    )
