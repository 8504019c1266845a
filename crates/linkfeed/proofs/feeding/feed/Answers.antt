use Rattle.linkfeed.specs.Piece.{StillGives}
use Rattle.linkfeed.proofs.Fed.{feeds}
use Rattle.linkfeed.proofs.Pieces.{still_some}
use Rattle.linkfeed.proofs.feeding.feed.Goals as goal

-- the link always answers, and its line stops
pub returns : goal.returns
returns g c =
    let old = c.args.source.now in
    let new = c.run.new.source in
    let means = g.L.Line.means in
    let some = still_some new.is_over (means new.line).comes (g.met.L.Stopping.stops new.line) in
    feeds g.S.Store c.args.store c.args.size c.args.buffer.now (record { gives = λ s. StillGives s.is_over (means s.line).comes; broken = λ _. ⊥ }) old new (λ broken. broken) some g.O.Sink c.args.sink.now c.run.new.sink c.run.result.0 c.run.new.buffer c.run.result.1 c.run.ensures
