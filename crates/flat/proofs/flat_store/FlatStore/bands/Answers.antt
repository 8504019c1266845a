use Rattle.std.proofs.Common.{refl}
use Rattle.flat.specs.Laws.{slice_lawful}
use Rattle.flat.proofs.flat_store.FlatStore.bands.Goals as goal

pub returns : goal.returns
returns c = let s = c.args.self.now in record { is = refl; lawful = slice_lawful _ _ _ s.few s.counted }
