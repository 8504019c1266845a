use Rattle.std.proofs.Common.{arith}
use Rattle.loads.proofs.Inverse.{joinable}
use Rattle.loads.proofs.transform.sixteen.Goals as goal

pub join-requires : goal.join-requires
join-requires c =
    let s = c.split_at_mut-low.ensures in
    joinable 4 8 c.args.numbers.now (omega arith) c.requires.0 (omega (arith, c.requires.0)) _ _ _ _ s.front s.back c.eight.ensures c.eight-2.ensures (omega arith) c.requires.1
