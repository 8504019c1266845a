use Rattle.std.proofs.Common.{◌≡◌, ℕ, ◌<◌, pos}
use Rattle.flat.specs.Slice.{number_at}
use Rattle.pile.proofs.bottoms.clear.Given as goal

abbrev pub invariant-loop-cell : goal.invariant-loop-cell
invariant-loop-cell l = (k : ℕ) → k < l.cell → number_at l.numbers k ≡ pos 0
