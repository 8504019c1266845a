use Rattle.std.proofs.Common.{◌≡◌, ◌-◌, ◌/◌, ◌^◌, ◌≤◌}
use Rattle.haar.specs.Tree.{S}
use Rattle.loads.specs.Tree.{alone_of}
use Rattle.loads.proofs.share.ChunkTree.sum_at.Given as goal

abbrev pub invariant-loop-half : goal.invariant-loop-half
invariant-loop-half l = (l.level ≤ l.half) × (l.sum ≡ S (alone_of l.self) l.half (l.index / 2 ^ (l.half - l.level)))
