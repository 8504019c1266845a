use Rattle.std.proofs.Common.{◌≡◌, ◌-◌, ◌≤◌, ◌++◌, length, take}
use Rattle.gymshell.proofs.board.fill.Given as goal

abbrev pub invariant-loop-taken : goal.invariant-loop-taken
invariant-loop-taken l = record {
  bytes : l.ring.bytes ≡ l.initial.ring.bytes ++ take l.taken l.bytes;
  replied : l.ring.replied ≡ l.initial.ring.replied;
  room : l.taken ≤ 64 - length l.initial.ring.bytes;
}
