use Rattle.agreement.proofs.Agreement.{agreement}
use Rattle.compare.proofs.comparing.compare.Goals as goal

pub returns-clause-agreement : goal.returns-clause-agreement
returns-clause-agreement g c = agreement _ _
