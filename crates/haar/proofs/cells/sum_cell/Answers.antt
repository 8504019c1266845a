use Rattle.std.proofs.Common.{◌+◌, ◌-◌, ◌*◌, ◌/◌, ◌^◌, arith}
use Rattle.haar.specs.declared.coefficient.Coefficient.TheVariants.{TileSum}
use Rattle.haar.proofs.Places.{tile_inside}
use Rattle.haar.proofs.Read.{start_inside}
use Rattle.haar.proofs.cells.sum_cell.Goals as goal

pub invariant_of-tile-clause-inside : goal.invariant_of-tile-clause-inside
invariant_of-tile-clause-inside c =
    let i = c.in_tree.ensures.is.0 c.if-not-in_tree.false in
    let t = c.saturating_sub-band.result / 4 in
    omega (arith, c.shr-index.ensures, tile_inside c.args.bands (TileSum t (c.args.index / 2 ^ (4 * t + 4 - c.args.level))) (omega arith) (start_inside (4 * c.args.bands) c.args.level c.args.index t i.low i.inside (omega arith)))
