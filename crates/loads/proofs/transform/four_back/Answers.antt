use Rattle.std.proofs.Common.{◌^◌, arith}
use Rattle.loads.proofs.Inverse.{high_back}
use Rattle.loads.proofs.transform.four_back.Goals as goal

pub two_back-requires-2 : goal.two_back-requires-2
two_back-requires-2 c =
    high_back 2 2 c.args.numbers.now _ (omega arith) c.requires.0 (omega (arith, c.requires.0)) c.part.ensures (2 ^ 61) c.requires.1 _ c.split_at_mut-low.ensures.back
