use Rattle.linkfeed.specs.Handing.{Handed}
use Rattle.linkfeed.proofs.source.hand_on.Given as goal

abbrev pub invariant-loop-place : goal.invariant-loop-place
invariant-loop-place g l = Handed (g.L.Line.means l.fn.line) l.fn.buffer l.place l.place (g.L.Line.means l.line) l.buffer
