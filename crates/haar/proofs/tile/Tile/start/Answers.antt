use Rattle.std.proofs.Common.{arith}
use Rattle.haar.proofs.Places.{tile_most}
use Rattle.haar.proofs.tile.Tile.start.Goals as goal

pub add-requires : goal.add-requires
add-requires c =
    let s = c.args.self in
    omega (arith, c.tiles.ensures.is, tile_most s.bands s.band s.index.number s.few s.held s.inside)

pub shl-requires : goal.shl-requires
shl-requires c =
    let s = c.args.self in
    (omega arith, omega (arith, c.tiles.ensures.is, tile_most s.bands s.band s.index.number s.few s.held s.inside))

pub returns-clause-whole : goal.returns-clause-whole
returns-clause-whole c =
    let s = c.args.self in
    omega (arith, c.tiles.ensures.is, tile_most s.bands s.band s.index.number s.few s.held s.inside)
