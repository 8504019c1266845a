use Rattle.std.proofs.Common.{length}
use Rattle.notation.proofs.Lines.{Passed}
use Rattle.notation.proofs.feed.feed_of.Given as goal

abbrev pub invariant-lines : goal.invariant-lines
invariant-lines l = Passed l.text l.feed.items (length l.yielded)
