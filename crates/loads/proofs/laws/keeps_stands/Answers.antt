use Rattle.std.proofs.Common.{◌+ℤ◌, sym, subst}
use Rattle.haar.specs.Haar.{HaarCells}
use Rattle.haar.proofs.Load.{loaded}
use Rattle.loads.specs.Share.{minutes}
use Rattle.loads.proofs.Splits.{minutes_chunk}
use Rattle.loads.proofs.laws.keeps_stands.Goals as goal

pub returns : goal.returns
returns c = λ v v' m p w zs f h haar a.
    let k = loaded v.store.bands v.size m p f (minutes m p zs) v.store.cells v'.store.cells a.some h a.sound.lies.low (minutes_chunk m p zs) haar a.took.stored.loaded in
    subst (λ t. HaarCells t v'.size (λ i. f i +ℤ minutes m p zs i) v'.store.cells) (sym a.took.stored.bands)
    (subst (λ n. HaarCells v.store.bands n (λ i. f i +ℤ minutes m p zs i) v'.store.cells) (sym a.size) k)
