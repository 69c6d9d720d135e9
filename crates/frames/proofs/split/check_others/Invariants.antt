use Rattle.std.proofs.Common.{◌≡◌, ◌-◌, None}
use Rattle.frames.specs.Checks.{framed, others}
use Rattle.frames.proofs.split.check_others.Given as goal

abbrev pub invariant-loop : goal.invariant-loop
invariant-loop l = (framed l.bytes (l.count - l.counter) l.at ≡ None) × (others l.bytes l.count l.from ≡ others l.bytes (l.count - l.counter) l.at)
