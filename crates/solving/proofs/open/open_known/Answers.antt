use Rattle.std.proofs.Common.{◌≡◌, ℕ, Err, sym, subst, rules}
use Rattle.refusal.specs.declared.reason.Refusal.TheVariants.{OtherPrime}
use Rattle.constraints.specs.Reader.{ReadsCircuit}
use Rattle.solving.proofs.Primes.{prime_stays}
use Rattle.solving.proofs.open.open_known.Goals as goal

pub returns-in_default-clause-circuit : goal.returns-in_default-clause-circuit
returns-in_default-clause-circuit c =
    let told = c.in-Err.ensures in
    let xs = c.args.circuit.now in
    let other : ¬ (c.in-Err.e.reason ≡ OtherPrime) = search rules in
    let same = sym (prime_stays xs c.in-Err.e told.verdict.0 other) in
    subst (λ (p : ℕ). ReadsCircuit xs p (Err c.in-Err.e)) same told.circuit
