use Rattle.holdback.specs.Laws.{layer_lawful}
use Rattle.holdback.proofs.layer.HoldBackStore.bands.Goals as goal

pub returns-clause-lawful : goal.returns-clause-lawful
returns-clause-lawful g c = layer_lawful c.args.self.now.held _ c.bands.ensures.lawful
