use Rattle.std.proofs.Common.{refl}
use Rattle.haar.proofs.Places.{bits_enough}
use Rattle.haar.proofs.narrow.Narrow.bits_of.Goals as goal

pub returns : goal.returns
returns c = λ places. bits_enough c.args.number places _ c.ranges.number.fits refl
