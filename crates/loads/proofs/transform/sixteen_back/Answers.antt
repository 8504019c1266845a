use Rattle.std.proofs.Common.{◌^◌, arith}
use Rattle.loads.proofs.Inverse.{high_back}
use Rattle.loads.proofs.transform.sixteen_back.Goals as goal

pub eight_back-requires-2 : goal.eight_back-requires-2
eight_back-requires-2 c =
    high_back 4 8 c.args.numbers.now _ (omega arith) c.requires.0 (omega (arith, c.requires.0)) c.part.ensures (2 ^ 61) c.requires.1 _ c.split_at_mut-low.ensures.back
