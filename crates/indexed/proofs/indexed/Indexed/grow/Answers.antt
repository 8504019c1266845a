use Rattle.indexed.proofs.Calls.{growth_step, growth_wrote}
use Rattle.indexed.proofs.indexed.Indexed.grow.Goals as goal

pub returns-clause-step : goal.returns-clause-step
returns-clause-step g c = growth_step (λ b. b.store) g.I.Store.means g.I.Store.puts _ _ _ _ _ c.grow_beside.ensures.growth

pub returns-clause-index : goal.returns-clause-index
returns-clause-index g c = growth_wrote (λ b. b.store) g.I.Store.means g.I.Store.puts _ _ _ _ _ c.grow_beside.ensures.growth
