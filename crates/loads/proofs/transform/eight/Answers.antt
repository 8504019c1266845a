use Rattle.std.proofs.Common.{arith}
use Rattle.loads.proofs.Inverse.{joinable}
use Rattle.loads.proofs.transform.eight.Goals as goal

pub join-requires : goal.join-requires
join-requires c =
    let s = c.split_at_mut-low.ensures in
    joinable 3 4 c.args.numbers.now (omega arith) c.requires.0 (omega (arith, c.requires.0)) _ _ _ _ s.front s.back c.four.ensures c.four-2.ensures (omega arith) c.requires.1
