use Rattle.loads.proofs.Growing.{top_below, cell_below, tile_cell_below}
use Rattle.loads.proofs.growth.GrowthCells.newly_filled.Goals as goal

pub number_in-requires : goal.number_in-requires
number_in-requires g c = cell_below (g.S.Store.means c.args.self.now.store.now) _ _ _ c.args.self.now.whole c.args.self.now.over (top_below _ _ c.args.self.now.below)

pub number_in-requires-in-Some : goal.number_in-requires-in-Some
number_in-requires-in-Some g c = tile_cell_below (g.S.Store.means c.args.self.now.store.now) _ _ _ _ c.args.self.now.whole c.args.self.now.below c.args.self.now.comes c.in-Some.is
