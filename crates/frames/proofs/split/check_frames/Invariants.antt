use Rattle.std.proofs.Common.{◌≡◌, ◌-◌}
use Rattle.frames.specs.Checks.{framed}
use Rattle.frames.proofs.split.check_frames.Given as goal

abbrev pub invariant-loop : goal.invariant-loop
invariant-loop l = framed l.bytes l.count 12 ≡ framed l.bytes (l.count - l.counter) l.at
