use Rattle.std.proofs.Common.{◌≡◌, refl, rules}
use Rattle.haar.specs.Count.{W}
use Rattle.haar.proofs.Load.{some_load}
use Rattle.loads.proofs.Splits.{minutes_chunk}
use Rattle.loads.proofs.Partly.{partly_start, partly_end, unstopped}
use Rattle.loads.proofs.Writes.{wrote_start}
use Rattle.loads.proofs.chunk.Load.write.Goals as goal

pub walk-requires : goal.walk-requires
walk-requires g c =
    let r = c.args.self.now.chunk.reach in
    let y = some_load _ _ _ _ _ _ r.some r.held r.low (minutes_chunk _ _ _) in
    (refl, (partly_start _ _ _ _ _ _ c.args.self.now.bands c.requires.small y.0 y.1 (c.requires.fitted y.0 y.1), wrote_start g.S.Store.puts _ _ _ _ _ _ _))

pub returns-clause-took : goal.returns-clause-took
returns-clause-took g c =
    let r = c.args.self.now.chunk.reach in
    let answered : c.cells_written.result ≡ W r.level r.size = search rules in
    let w = unstopped c.walk.result _ c.walk.ensures in
    record {
      answered = answered;
      small = c.requires.small;
      fitted = c.requires.fitted;
      stored = partly_end _ _ _ _ _ r.some r.held _ _ w.1.0 c.args.self.now.bands;
    }

pub returns-clause-wrote : goal.returns-clause-wrote
returns-clause-wrote g c = (unstopped c.walk.result _ c.walk.ensures).1.1
