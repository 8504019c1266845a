use Rattle.std.proofs.Common.{sym, subst}
use Rattle.haar.specs.Growth.{Grown}
use Rattle.haar.specs.Haar.{HaarCells}
use Rattle.haar.proofs.Growth.{growth}
use Rattle.haar.proofs.Load.{total_cell}
use Rattle.loads.proofs.laws.growth_keeps_stands.Goals as goal

pub returns : goal.returns
returns c = λ v v' n f blank haar g.
    let t = total_cell v.store.bands v.size f v.store.cells haar in
    let k = growth v.store.bands v.size f v.store.cells g.below blank haar v'.store.cells (subst (λ z. Grown v.store.bands v.size z v.store.cells v'.store.cells) t g.topped.cells) in
    subst (λ T. HaarCells T v'.size f v'.store.cells) (sym g.topped.bands)
    (subst (λ m. HaarCells v.store.bands m f v'.store.cells) (sym g.size) k)
