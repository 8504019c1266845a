use Rattle.loads.proofs.Growing.{total_rises}
use Rattle.loads.proofs.laws.growth_rises_stands.Goals as goal

pub returns : goal.returns
returns c = total_rises
