use Rattle.std.proofs.Common.{◌≡◌, Ok}
use Rattle.warehouse.specs.Read.{look}
use Rattle.warehouse.proofs.Descents.{on_the_way}
use Rattle.warehouse.proofs.tree.Tree.sum.Given as goal

abbrev pub invariant-loop-below : goal.invariant-loop-below
invariant-loop-below g l =
    Ok l.sum ≡ on_the_way (g.S.Store.means l.self.store.now).bands l.self.size (look (g.S.Store.means l.self.store.now)) l.level l.index l.below
