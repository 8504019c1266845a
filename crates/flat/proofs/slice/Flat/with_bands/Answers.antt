use Rattle.std.proofs.Common.{ap, ◌∙◌, arith}
use Rattle.haar.specs.Tiles.{cell_count}
use Rattle.flat.proofs.Fewer.{greatest_cut}
use Rattle.flat.proofs.slice.Flat.with_bands.Goals as goal

pub count_zeros-zeros-requires : goal.count_zeros-zeros-requires
count_zeros-zeros-requires c =
    let cut = greatest_cut _ _ _ _ c.min-bands.ensures c.most_bands.ensures in
    let few = c.most_bands.ensures.few in
    let count = c.cell_count-count.ensures ∙ ap cell_count (omega (arith, c.min-bands.ensures)) in
    rw count cut.fits

pub invariant_of-result-clause-long : goal.invariant_of-result-clause-long
invariant_of-result-clause-long c = (greatest_cut _ _ _ _ c.min-bands.ensures c.most_bands.ensures).fits
