use Rattle.agreement.proofs.Agreement.{agreement}
use Rattle.agreement.proofs.laws.agreement_stands.Goals as goal

pub returns : goal.returns
returns c = agreement
