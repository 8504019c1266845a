use Rattle.std.proofs.Common.{◌∙◌, arith}
use Rattle.haar.proofs.Places.{tiles_left, before_most}
use Rattle.haar.proofs.tile.tiles.Goals as goal

pub returns-clause-is : goal.returns-clause-is
returns-clause-is c = c.shr.ensures ∙ tiles_left c.args.above c.requires

pub returns-clause-most : goal.returns-clause-most
returns-clause-most c = omega (arith, c.shr.ensures ∙ tiles_left c.args.above c.requires, before_most c.args.above c.requires)
