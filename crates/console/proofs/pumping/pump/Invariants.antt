use Rattle.std.proofs.Common.{◌+◌, ◌-◌, ◌^◌, ◌<◌, None, length}
use Rattle.console.specs.Playing.{state}
use Rattle.console.specs.Pumping.{Pumped}
use Rattle.console.proofs.pumping.pump.Given as goal

abbrev pub invariant-pieces : goal.invariant-pieces
invariant-pieces g l =
    record {
      few : length l.window < 9;
      fits : l.offset + length l.window < 2 ^ 64;
      pumped : Pumped g.S.Store (state l.initial.warehouse None l.initial.buffer) (g.I.Source.gives l.initial.source) (g.I.Source.gives l.source) (g.O.Sink.took l.initial.sink) (g.O.Sink.took l.sink)
          (state l.warehouse l.loading l.buffer) l.offset l.window;
    }

abbrev pub decreases-pieces : goal.decreases-pieces
decreases-pieces g l = 2 ^ 64 - (l.offset + length l.window)
