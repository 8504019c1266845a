use Rattle.std.proofs.Common.{take}
use Rattle.store.specs.Contents.{in_use}
use Rattle.store.specs.Meaning.{Same}
use Rattle.store.specs.Writing.{Written}
use Rattle.holdback.specs.Layer.{Sinks}
use Rattle.holdback.specs.Over.{held_over}
use Rattle.holdback.proofs.held.HoldBack.pour.Given as goal

abbrev pub invariant-loop-entry : goal.invariant-loop-entry
invariant-loop-entry g l =
    Same (held_over l.fn.self.held.entries l.entry-index (g.S.Store.means l.initial.below)) (g.S.Store.means l.below)
    × Written (Sinks g.S.Store.means g.S.Store.puts) (take l.entry-index (in_use l.fn.self.held)) l.initial.below l.below
