use Rattle.loads.proofs.Machine.{parted_is}
use Rattle.loads.proofs.transform.part.Goals as goal

pub returns : goal.returns
returns c = parted_is c.args.half c.args.numbers.now c.requires.1.0 c.requires.1.1
