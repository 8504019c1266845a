use Rattle.link.proofs.Carriage.{carries, carried}
use Rattle.link.proofs.laws.ring_carries.Goals as goal

pub returns-clause-each_once : goal.returns-clause-each_once
returns-clause-each_once c = carries

pub returns-clause-some_run : goal.returns-clause-some_run
returns-clause-some_run c = carried
