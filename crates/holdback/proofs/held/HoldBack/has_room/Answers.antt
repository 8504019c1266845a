use Rattle.std.proofs.Common.{rules}
use Rattle.store.proofs.Zeros.{room_most}
use Rattle.holdback.proofs.held.HoldBack.has_room.Goals as goal

pub returns : goal.returns
returns g c =
    let most = room_most (g.S.Store.means c.args.self.now.below) (g.met.S.Store.laws c.args.self.now.below) in
    search rules
