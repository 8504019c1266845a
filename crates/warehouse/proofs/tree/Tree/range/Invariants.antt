use Rattle.std.proofs.Common.{◌-◌}
use Rattle.warehouse.specs.Read.{look}
use Rattle.warehouse.proofs.Progress.{SoFar}
use Rattle.warehouse.proofs.tree.Tree.range.Given as goal

abbrev pub invariant-loop-at : goal.invariant-loop-at
invariant-loop-at g l =
    SoFar (g.S.Store.means l.self.store.now).bands l.self.size (look (g.S.Store.means l.self.store.now)) l.from l.to l.at l.sum

abbrev pub decreases-loop-at : goal.decreases-loop-at
decreases-loop-at g l = l.to - l.at
