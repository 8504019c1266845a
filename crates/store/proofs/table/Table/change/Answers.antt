use Rattle.std.proofs.Common.{◌<◌, length, refl, w64, rules}
use Rattle.std.proofs.lemmas.Int.{to_z-of_z}
use Rattle.store.proofs.Changing.{stored_set}
use Rattle.store.proofs.Tidy.{tidy}
use Rattle.store.proofs.table.Table.change.Goals as goal

pub returns : goal.returns
returns g c =
    let l : c.args.at < length c.args.self.now.entries = search rules in
    stored_set _ _ _ l refl _ _ (to_z-of_z w64 c.args.value c.ranges.value) c.requires.nonzero c.requires.used (tidy c.args.self.now)
