use Rattle.std.proofs.Common.{ap, w64}
use Rattle.std.proofs.lemmas.Int.{to_z-of_z}
use Rattle.loads.proofs.Growing.{First, top_below, cell_below, tile_cell_below, first_free, first_tile, first_none, same_bands, top_free, topped}
use Rattle.loads.proofs.growth.GrowthCells.write.Goals as goal
use Rattle.loads.proofs.growth.GrowthCells.write.Goals.{Joined-self, in-Some, in_default}

pub put-requires : goal.put-requires
put-requires g c =
    let m = g.S.Store.means c.args.self.now.store.now in
    let s = c.args.self.now in
    record {
      inside = tile_cell_below m _ s.size _ _ c.args.self.now.whole s.below s.comes c.in-Some.is;
      free = first_free m m _ s.size _ c.args.self.now.whole s.comes _ _ _ s.below c.in-Some.is (to_z-of_z w64 c.args.total c.ranges.total) c.requires;
    }

-- what the store holds before the total comes on top
first : (g : _) (c : Joined-self g) → First c.args.self.now.size c.args.total (g.S.Store.means c.args.self.now.store.now) (g.S.Store.means c.match-self.self.1.0.now)
first g c =
    let m = g.S.Store.means c.args.self.now.store.now in
    let s = c.args.self.now in
    elim c.match-self.branch [
      | in-Some w ↦ rw w.self-is (first_tile m _ _ s.size _ c.args.self.now.whole s.comes _ _ _ w.in-Some.is (to_z-of_z w64 c.args.total c.ranges.total) w.put.ensures.put)
      | in_default w ↦ first_none m _ _ s.size _ c.args.self.now.whole s.comes _ w.in_default.is (ap (λ x. g.S.Store.means x.1.0.now) w.self-is)
    ]

pub put-requires-2 : goal.put-requires-2
put-requires-2 g c =
    let m = g.S.Store.means c.args.self.now.store.now in
    let s = c.args.self.now in
    let f = first g ((goal.at.put-requires-2 g c).Joined-self) in
    record {
      inside = cell_below (g.S.Store.means c.match-self.self.1.0.now) _ _ _ (same_bands m _ m _ _ _ c.args.total _ c.args.self.now.whole s.below s.over (to_z-of_z w64 c.args.total c.ranges.total) f) s.over (top_below _ _ s.below);
      free = top_free m _ m _ _ _ c.args.total _ c.args.self.now.whole s.below s.over (to_z-of_z w64 c.args.total c.ranges.total) f c.requires;
    }

pub returns-clause-topped : goal.returns-clause-topped
returns-clause-topped g c =
    let s = c.args.self.now in
    topped _ _ _ _ _ _ c.args.total _ c.args.self.now.whole s.below s.over (to_z-of_z w64 c.args.total c.ranges.total) (first g ((goal.at.returns-clause-topped g c).Joined-self)) c.put-2.ensures.put
