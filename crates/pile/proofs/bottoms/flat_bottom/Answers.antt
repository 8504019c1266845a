use Rattle.std.proofs.Common.{subst, ℕ, ◌≡◌, ◌<◌, pos}
use Rattle.flat.specs.Slice.{number_at}
use Rattle.pile.proofs.Emptied.{emptied}
use Rattle.pile.proofs.bottoms.flat_bottom.Goals as goal

pub returns : goal.returns
returns c = emptied c.args.bands _ c.clear.new.numbers _ c.clear.auto.numbers (subst (λ (n : ℕ). (k : ℕ) → k < n → number_at c.clear.new.numbers k ≡ pos 0) c.cell_count.ensures c.clear.ensures) c.with_bands.ensures.made
