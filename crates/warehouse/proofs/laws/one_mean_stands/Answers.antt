use Rattle.warehouse.proofs.Means.{one_mean}
use Rattle.warehouse.proofs.laws.one_mean_stands.Goals as goal

pub returns : goal.returns
returns c = one_mean
