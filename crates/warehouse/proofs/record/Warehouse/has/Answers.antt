use Rattle.std.proofs.Common.{arith}
use Rattle.warehouse.proofs.Descents.{tree_here}
use Rattle.warehouse.proofs.record.Warehouse.has.Goals as goal

pub returns-clause-tree : goal.returns-clause-tree
returns-clause-tree g c h =
    let s = c.is_inside.ensures.0 h in
    tree_here _ c.size.result _ _ c.size.ensures.lawful.few s.0 (omega (arith, c.size.ensures.is)) s.1
