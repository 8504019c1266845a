use Rattle.std.proofs.Common.{w64, SFits, rules}
use Rattle.std.proofs.lemmas.Int.{to_z-of_z}
use Rattle.store.specs.Table.{entry_at, HeldAmong}
use Rattle.store.proofs.Lookups.{hit}
use Rattle.store.proofs.table.Table.get.Goals as goal

pub returns : goal.returns
returns g c =
    let f : SFits w64 (entry_at c.args.self.now.entries c.in_ok-at.at).value = search rules in
    let h : HeldAmong c.args.self.now.entries c.args.self.now.used c.args.cell c.in_ok-at.at = search rules in
    simp to_z-of_z (hit _ _ _ _ c.args.self.now.ascends h, c.args.self.now.nonzero _ h.used)
