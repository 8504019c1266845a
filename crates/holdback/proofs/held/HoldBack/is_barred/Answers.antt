use Rattle.std.proofs.Common.{rules}
use Rattle.holdback.proofs.Calls.{bars_zero}
use Rattle.holdback.proofs.Counted.{zero_here}
use Rattle.holdback.proofs.held.HoldBack.is_barred.Goals as goal
use Rattle.holdback.proofs.held.HoldBack.is_barred.Goals.{then-is_none, else-is_none}

pub returns-then-is_zero_below : goal.returns-then-is_zero_below
returns-then-is_zero_below g c =
    let m = g.S.Store.means c.args.self.now.below in
    elim c.if-is_none.branch [
      | then-is_none w ↦ bars_zero m _ _ _ _ _ c.get.ensures w.if-is_none.ensures (zero_here m c.args.cell (search rules)) c.has_room.ensures
      | else-is_none w ↦ search rules
    ]
