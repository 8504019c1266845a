use Rattle.std.proofs.Common.{length, string_bytes}
use Rattle.notation.specs.Text.{part_line}
use Rattle.notation.proofs.Coming.{Coming}
use Rattle.notation.proofs.text.text_of.Given as goal

abbrev pub invariant-commands : goal.invariant-commands
invariant-commands l = Coming part_line l.feed l.rest (string_bytes l.text)

abbrev pub decreases-commands : goal.decreases-commands
decreases-commands l = length l.rest
