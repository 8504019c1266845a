use Rattle.std.proofs.Common.{◌+◌, ◌-◌, ◌*◌}
use Rattle.haar.specs.Tiles.{tiles_before}
use Rattle.loads.specs.Tree.{minutes_of}
use Rattle.loads.proofs.walk.inside.Given as goal

abbrev pub invariant-loop-at : goal.invariant-loop-at
invariant-loop-at g l =
    (x : _) → g.P.Pass.passed l.chunk.reach (minutes_of l.chunk) x l.initial.pass (16 * tiles_before (l.chunk.reach.bands - 1 - l.band)) → g.P.Pass.passed l.chunk.reach (minutes_of l.chunk) x l.pass (l.start.number + l.at)
