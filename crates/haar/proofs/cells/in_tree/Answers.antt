use Rattle.std.proofs.Common.{arith}
use Rattle.haar.proofs.Places.{index_most}
use Rattle.haar.proofs.cells.in_tree.Goals as goal

pub returns-then-bands-le5-clause-narrow : goal.returns-then-bands-le5-clause-narrow
returns-then-bands-le5-clause-narrow c = λ t.
    let i = c.is_inside.ensures.0 t in
    index_most c.args.bands c.args.level c.args.index (record { few = omega arith; low = i.0; inside = i.1 })
