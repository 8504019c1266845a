use Rattle.std.proofs.Common.{◌-◌, ◌*◌, ◌≤◌}
use Rattle.haar.specs.Tiles.{tiles_before}
use Rattle.loads.specs.Reach.{row_cell}
use Rattle.loads.specs.Tree.{minutes_of}
use Rattle.loads.proofs.walk.over.Given as goal

abbrev pub invariant-loop-below : goal.invariant-loop-below
invariant-loop-below g l =
    let r = l.chunk.reach in
    (4 * l.band ≤ l.below)
    × ((x : _) → g.P.Pass.passed r (minutes_of l.chunk) x l.fn.pass (16 * tiles_before (r.bands - 1 - l.band)) → g.P.Pass.passed r (minutes_of l.chunk) x l.pass (row_cell r.bands r.level r.index l.band l.below))
