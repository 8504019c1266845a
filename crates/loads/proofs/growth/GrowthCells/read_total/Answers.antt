use Rattle.loads.proofs.Growing.{total_below, cell_below}
use Rattle.loads.proofs.growth.GrowthCells.read_total.Goals as goal

pub number_in-requires : goal.number_in-requires
number_in-requires g c =
    let s = c.args.self.now in
    cell_below (g.S.Store.means s.store.now) _ _ _ s.whole s.stands (total_below _ _ s.below)
