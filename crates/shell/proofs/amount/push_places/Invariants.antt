use Rattle.std.proofs.Common.{◌≡◌, ◌≤◌, ◌++◌, string_bytes}
use Rattle.shell.specs.Amount.{places}
use Rattle.shell.proofs.amount.push_places.Given as goal

abbrev pub invariant-places : goal.invariant-places
invariant-places l =
    record {
      most : l.left ≤ l.places;
      come : string_bytes l.initial.text ++ places l.places l.n ≡ string_bytes l.text ++ places l.left l.n;
    }

abbrev pub decreases-places : goal.decreases-places
decreases-places l = l.left
