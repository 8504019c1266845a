use Rattle.std.proofs.Common.{length, string_bytes}
use Rattle.notation.specs.Words.{part_words}
use Rattle.notation.proofs.Coming.{Coming}
use Rattle.notation.proofs.words.words_of.Given as goal

abbrev pub invariant-commands : goal.invariant-commands
invariant-commands l = Coming part_words l.feed l.rest (string_bytes l.words)

abbrev pub decreases-commands : goal.decreases-commands
decreases-commands l = length l.rest
