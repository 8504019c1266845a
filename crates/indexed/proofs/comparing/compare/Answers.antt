use Rattle.indexed.proofs.Agreement.{agreement}
use Rattle.indexed.proofs.comparing.compare.Goals as goal

pub returns-clause-agreement : goal.returns-clause-agreement
returns-clause-agreement g c = agreement _ _
