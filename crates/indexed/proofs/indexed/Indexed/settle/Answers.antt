use Rattle.std.proofs.Common.{min, ◌*◌, ◌^◌, ap₂}
use Rattle.indexed.proofs.Calls.{settle_step}
use Rattle.indexed.proofs.indexed.Indexed.settle.Goals as goal

pub returns-clause-step : goal.returns-clause-step
returns-clause-step g c =
    let s = c.settle.ensures in
    settle_step (λ b. b) g.I.Store.means g.I.Store.puts _ _ _ _ (ap₂ (λ a T. min a (4 * T)) s.size s.settles.same.bands) (λ i. min (s.mark i) (2 ^ min (s.size i) (4 * s.settles.same.bands i))) s.settles c.settle-2.ensures.settles
