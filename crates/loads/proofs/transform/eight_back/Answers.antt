use Rattle.std.proofs.Common.{◌^◌, arith}
use Rattle.loads.proofs.Inverse.{high_back}
use Rattle.loads.proofs.transform.eight_back.Goals as goal

pub four_back-requires-2 : goal.four_back-requires-2
four_back-requires-2 c =
    high_back 3 4 c.args.numbers.now _ (omega arith) c.requires.0 (omega (arith, c.requires.0)) c.part.ensures (2 ^ 61) c.requires.1 _ c.split_at_mut-low.ensures.back
