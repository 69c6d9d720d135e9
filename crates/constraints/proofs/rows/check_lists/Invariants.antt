use Rattle.std.proofs.Common.{◌≡◌, ◌-◌, ◌*◌, ◌≤◌}
use Rattle.constraints.specs.Opened.{lists}
use Rattle.constraints.proofs.rows.check_lists.Given as goal

abbrev pub invariant-loop : goal.invariant-loop
invariant-loop l = (l.at ≤ l.stop) × (lists l.bytes l.header.wires l.header.prime l.stop (3 * l.header.rows) l.from ≡ lists l.bytes l.header.wires l.header.prime l.stop (3 * l.header.rows - l.counter) l.at)
