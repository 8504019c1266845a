use Rattle.std.proofs.Common.{◌≡◌, ◌-◌}
use Rattle.shell.specs.Amount.{amount_text, amount_from}
use Rattle.shell.proofs.amount.amount_text.Given as goal

abbrev pub invariant-loop-places : goal.invariant-loop-places
invariant-loop-places l = amount_text l.x ≡ amount_from (19 - l.places) l.places l.x
