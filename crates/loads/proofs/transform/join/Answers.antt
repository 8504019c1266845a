use Rattle.loads.proofs.Machine.{joined_is}
use Rattle.loads.proofs.transform.join.Goals as goal

pub returns : goal.returns
returns c = joined_is c.args.half c.args.numbers.now c.requires.1.0 c.requires.1.1
