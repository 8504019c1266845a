use Rattle.std.proofs.Common.{◌+◌, ◌^◌, ◌<◌, pos, ◌≤ℤ◌, ◌<ℤ◌}
use Rattle.store.proofs.free.free_cells.Given as goal

-- what was found fits, and so much more as the digits left can say does not
abbrev pub invariant-loop-digit : goal.invariant-loop-digit
invariant-loop-digit g l = record {
  fits : 0 < l.free → pos l.free ≤ℤ (g.S.Store.means l.store).room;
  less : (g.S.Store.means l.store).room <ℤ pos (l.free + 2 ^ l.digit);
  small : l.free + 2 ^ l.digit < 2 ^ 22;
}
