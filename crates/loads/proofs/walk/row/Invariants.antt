use Rattle.std.proofs.Common.{◌+◌}
use Rattle.loads.specs.Reach.{row_cell}
use Rattle.loads.specs.Tree.{minutes_of}
use Rattle.loads.proofs.walk.row.Given as goal

abbrev pub invariant-loop-at : goal.invariant-loop-at
invariant-loop-at g l =
    let r = l.chunk.reach in
    (x : _) → g.P.Pass.passed r (minutes_of l.chunk) x l.initial.pass (row_cell r.bands r.level r.index l.band l.level) → g.P.Pass.passed r (minutes_of l.chunk) x l.pass (l.cell.number + l.at)
