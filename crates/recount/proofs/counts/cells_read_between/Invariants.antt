use Rattle.std.proofs.Common.{◌-◌}
use Rattle.recount.proofs.counts.cells_read_between.Given as goal

abbrev pub decreases-loop-at : goal.decreases-loop-at
decreases-loop-at l = l.to - l.at
