use Rattle.std.proofs.Common.{◌≡◌, ◌+◌}
use Rattle.store.specs.Meaning.{filled}
use Rattle.flat.specs.Slice.{number_at}
use Rattle.flat.proofs.zeros.count_zeros.Given as goal

abbrev pub invariant-loop-number : goal.invariant-loop-number
invariant-loop-number l = l.zeros + filled (number_at l.numbers) l.number-index ≡ l.number-index
