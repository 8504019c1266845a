use Rattle.holdback.proofs.Counted.{alike_none}
use Rattle.holdback.proofs.held.HoldBack.new.Goals as goal

pub returns-clause-alike : goal.returns-clause-alike
returns-clause-alike g c = rw c.new.ensures (alike_none _ _)
