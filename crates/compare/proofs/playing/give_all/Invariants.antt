use Rattle.std.proofs.Common.{◌≡◌}
use Rattle.loads.specs.Opening.{Open}
use Rattle.compare.proofs.playing.give_all.Given as goal

abbrev pub invariant-loop-place : goal.invariant-loop-place
invariant-loop-place l = record { kept : l.values ≡ l.initial.values; filled : Open l.load l.initial.load.level l.initial.load.index l.place }
