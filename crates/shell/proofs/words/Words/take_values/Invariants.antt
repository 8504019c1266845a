use Rattle.std.proofs.Common.{length}
use Rattle.shell.specs.Words.{value}
use Rattle.shell.proofs.Taking.{Taken}
use Rattle.shell.proofs.words.Words.take_values.Given as goal

abbrev pub invariant-values : goal.invariant-values
invariant-values l = Taken value l.fn.self.rest.now l.values.items l.self.rest.now

abbrev pub decreases-values : goal.decreases-values
decreases-values l = length l.self.rest.now
