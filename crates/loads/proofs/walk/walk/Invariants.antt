use Rattle.std.proofs.Common.{◌-◌, ◌*◌}
use Rattle.haar.specs.Tiles.{tiles_before}
use Rattle.loads.specs.Tree.{minutes_of}
use Rattle.loads.proofs.walk.walk.Given as goal

abbrev pub invariant-loop-band : goal.invariant-loop-band
invariant-loop-band g l = g.P.Pass.passed l.chunk.reach (minutes_of l.chunk) l.initial.pass l.pass (16 * tiles_before (l.chunk.reach.bands - l.band))
