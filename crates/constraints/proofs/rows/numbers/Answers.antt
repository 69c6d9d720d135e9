use Rattle.std.proofs.Common.{◌≡◌, length, sym, ◌∙◌, arith}
use Rattle.std.proofs.lemmas.Bool.Decides.{nat_tests}
use Rattle.frames.proofs.Numbers.{left}
use Rattle.constraints.proofs.rows.numbers.Goals as goal

pub returns-in_err-outputs : goal.returns-in_err-outputs
returns-in_err-outputs c =
    let a = left c.args.payload.now _ 12 c.in_ok-size.ensures.3 in
    let b = left c.args.payload.now _ 16 (a.next 4 _ c.in_ok-wires.ensures.2) in
    rw c.from_residual-in_err-outputs.ensures (λ h. omega (arith, h, a.size, b.size, c.in_err-outputs.ensures))

pub returns-in_err-inputs : goal.returns-in_err-inputs
returns-in_err-inputs c =
    let a = left c.args.payload.now _ 12 c.in_ok-size.ensures.3 in
    let b = left c.args.payload.now _ 16 (a.next 4 _ c.in_ok-wires.ensures.2) in
    let d = left c.args.payload.now _ 20 (b.next 4 _ c.in_ok-outputs.ensures.2) in
    rw c.from_residual-in_err-inputs.ensures (λ h. omega (arith, h, d.size, c.in_err-inputs.ensures))

pub returns-in_err-private : goal.returns-in_err-private
returns-in_err-private c =
    let a = left c.args.payload.now _ 12 c.in_ok-size.ensures.3 in
    let b = left c.args.payload.now _ 16 (a.next 4 _ c.in_ok-wires.ensures.2) in
    let d = left c.args.payload.now _ 20 (b.next 4 _ c.in_ok-outputs.ensures.2) in
    let e = left c.args.payload.now _ 24 (d.next 4 _ c.in_ok-inputs.ensures.2) in
    rw c.from_residual-in_err-private.ensures (λ h. omega (arith, h, e.size, c.in_err-private.ensures))

pub returns-in_err-rows : goal.returns-in_err-rows
returns-in_err-rows c =
    let a = left c.args.payload.now _ 12 c.in_ok-size.ensures.3 in
    let b = left c.args.payload.now _ 16 (a.next 4 _ c.in_ok-wires.ensures.2) in
    let d = left c.args.payload.now _ 20 (b.next 4 _ c.in_ok-outputs.ensures.2) in
    let e = left c.args.payload.now _ 24 (d.next 4 _ c.in_ok-inputs.ensures.2) in
    let f = left c.args.payload.now _ 36 (e.next 12 _ c.in_ok-private.ensures.3) in
    rw c.from_residual-in_err-rows.ensures (λ h. omega (arith, h, f.size, c.in_err-rows.ensures))

pub returns-then-size-ne8 : goal.returns-then-size-ne8
returns-then-size-ne8 c =
    let a = left c.args.payload.now _ 12 c.in_ok-size.ensures.3 in
    let b = left c.args.payload.now _ 16 (a.next 4 _ c.in_ok-wires.ensures.2) in
    let d = left c.args.payload.now _ 20 (b.next 4 _ c.in_ok-outputs.ensures.2) in
    let e = left c.args.payload.now _ 24 (d.next 4 _ c.in_ok-inputs.ensures.2) in
    let f = left c.args.payload.now _ 36 (e.next 12 _ c.in_ok-private.ensures.3) in
    let k = left c.args.payload.now _ 40 (f.next 4 _ c.in_ok-rows.ensures.2) in
    λ h. elim c.then-size-ne8.branch [
      | goal.then-size-ne8-via-then-size-ne8 w ↦ w.if-size-ne8.true (c.in_ok-size.ensures.1 ∙ h.1)
      | goal.then-size-ne8-via-else-size-ne8+then-not-is_empty w ↦ grind (arith, nat_tests, h, k.size, w.is_empty.ensures, w.if-not-is_empty.true)
    ]

pub returns : goal.returns
returns c =
    let a = left c.args.payload.now _ 12 c.in_ok-size.ensures.3 in
    let b = left c.args.payload.now _ 16 (a.next 4 _ c.in_ok-wires.ensures.2) in
    let d = left c.args.payload.now _ 20 (b.next 4 _ c.in_ok-outputs.ensures.2) in
    let e = left c.args.payload.now _ 24 (d.next 4 _ c.in_ok-inputs.ensures.2) in
    let f = left c.args.payload.now _ 36 (e.next 12 _ c.in_ok-private.ensures.3) in
    let k = left c.args.payload.now _ 40 (f.next 4 _ c.in_ok-rows.ensures.2) in
    let n : length c.in_ok-rows.rest.now ≡ 0 = grind (arith, nat_tests, c.is_empty.ensures, c.if-not-is_empty.false) in (
      omega (arith, n, k.size, c.in_ok-rows.ensures.0, f.size),
      sym c.in_ok-size.ensures.1 ∙ c.if-size-ne8.false,
      record {
        prime = c.in_ok-size.ensures.2;
        wires = c.in_ok-wires.ensures.1 ∙ a.word;
        outputs = c.in_ok-outputs.ensures.1 ∙ b.word;
        inputs = c.in_ok-inputs.ensures.1 ∙ d.word;
        private = c.in_ok-private.ensures.1 ∙ e.word;
        labels = c.in_ok-private.ensures.2 ∙ e.long;
        rows = c.in_ok-rows.ensures.1 ∙ f.word;
      },
    )
