use Rattle.linkfeed.proofs.Pieces.{gave}
use Rattle.linkfeed.proofs.source.LinkSourceSource.read.Goals as goal

-- by what was handed on, since the feed was not over
pub returns-clause-reads : goal.returns-clause-reads
returns-clause-reads g c =
    let handed = c.hand_on-many in
    gave (g.L.Line.means c.args.self.now.line) c.args.buffer.now handed.result.0 c.args.self.now.is_over handed.result.1 (g.L.Line.means handed.new.line) handed.new.buffer c.if-self.false handed.ensures (g.met.L.Stopping.stops handed.new.line)
