use Rattle.std.proofs.Common.{◌≡◌, arith, rules}
use Rattle.haar.specs.Tiles.{cell_count}
use Rattle.store.proofs.Zeros.{filled_none, some_cells}
use Rattle.store.proofs.sparse.Sparse.new.Goals as goal

pub clamp-requires : goal.clamp-requires
clamp-requires c =
    let T = c.clamp-bands.result in
    let many : c.cell_count-cells.result ≡ cell_count T = search rules in
    omega (arith, some_cells T)

pub invariant_of-result-clause-celled : goal.invariant_of-result-clause-celled
invariant_of-result-clause-celled c =
    let T = c.clamp-bands.result in
    let many : c.cell_count-cells.result ≡ cell_count T = search rules in
    omega (arith, some_cells T)

pub invariant_of-result-clause-counted : goal.invariant_of-result-clause-counted
invariant_of-result-clause-counted c = rw c.new.ensures (filled_none c.new.result.entries _)
