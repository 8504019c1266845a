use Rattle.std.proofs.Common.{◌≡◌, ◌+◌, ◌-◌, ◌*◌, ◌^◌, ◌≤◌}
use Rattle.haar.specs.Count.{tiles}
use Rattle.haar.proofs.written.cells_written.Given as goal

abbrev pub invariant-loop-band : goal.invariant-loop-band
invariant-loop-band l = (l.count ≡ (2 ^ l.level - 1) + (l.size - l.level) + tiles l.level l.band) × (l.count ≤ 4115 + 256 * l.band)
