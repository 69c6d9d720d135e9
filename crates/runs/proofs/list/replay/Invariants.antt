use Rattle.std.proofs.Common.{List, ◌++◌, take, drop}
use Rattle.sheet.specs.Outcomes.{Answer}
use Rattle.sheet.specs.Model.{Sheet, sheet}
use Rattle.runs.specs.Runs.{Run}
use Rattle.runs.proofs.Replay.{AsLarge}
use Rattle.runs.proofs.list.replay.Given as goal

-- a run of the calls that are left makes, with the answers so far, a run of all the calls from the start
abbrev pub invariant-loop-i : goal.invariant-loop-i
invariant-loop-i g l =
    AsLarge l.initial.head l.head
    × ((t : Sheet g.row.F.Denot) (rest : List Answer)
    → Run g.F.Field.ops (sheet l.head l.entries l.values) (drop l.i l.calls) rest t
    → Run g.F.Field.ops (sheet l.initial.head l.initial.entries l.initial.values) l.calls (take l.i l.answers ++ rest) t)
