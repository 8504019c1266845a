use Rattle.std.proofs.Common.{◌-◌, ◌/◌, Some, ap, ◌∙◌, arith}
use Rattle.haar.specs.declared.coefficient.Coefficient.TheVariants.{TileSum, Difference}
use Rattle.haar.specs.Tiles.{cell_number}
use Rattle.haar.proofs.Places.{tile_inside, difference_parts}
use Rattle.haar.proofs.cells.difference_cell.Goals as goal

pub invariant_of-tile-clause-inside : goal.invariant_of-tile-clause-inside
invariant_of-tile-clause-inside c =
    let i = c.in_tree.ensures.is.0 c.if-not-in_tree.false in
    omega (arith, c.shr.ensures, tile_inside c.args.bands (Difference c.args.level c.args.index) (omega (arith, i.low)) (omega arith, i.low, i.inside))

pub returns : goal.returns
returns c =
    let i = c.in_tree.ensures.is.0 c.if-not-in_tree.false in
    let start = c.start.ensures.is ∙ ap (λ k. cell_number c.args.bands (TileSum ((c.args.level - 1) / 4) k)) c.shr.ensures in
    record {
      there = λ _ some. ap Some (omega (arith, difference_parts c.args.bands c.args.level c.args.index c.start.result.number c.slot.result.number (omega (arith, i.low)) start (c.slot.ensures.is some)));
      level = λ z. absurd (omega arith);
      none = λ out. absurd (out i);
      narrow = omega arith;
    }
