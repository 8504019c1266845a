use Rattle.store.proofs.Lookups.{gap_lacks}
use Rattle.store.proofs.Storing.{stored_none}
use Rattle.store.proofs.table.Table.remove.Goals as goal

pub returns-in_default : goal.returns-in_default
returns-in_default g c = stored_none _ _ _ (gap_lacks _ _ _ _ c.in_default.ensures)
