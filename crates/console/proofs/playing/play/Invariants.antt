use Rattle.std.proofs.Common.{length}
use Rattle.console.specs.Playing.{state}
use Rattle.console.proofs.Onward.{Onward}
use Rattle.console.proofs.playing.play.Given as goal

abbrev pub invariant-commands : goal.invariant-commands
invariant-commands g l =
    Onward g.S.Store (state l.initial.warehouse l.initial.loading l.initial.buffer) l.offset l.bytes (g.O.Sink.took l.initial.sink) (g.O.Sink.took l.sink) (state l.warehouse l.loading l.buffer) l.here l.rest

abbrev pub decreases-commands : goal.decreases-commands
decreases-commands g l = length l.rest
