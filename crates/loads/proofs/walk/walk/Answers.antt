use Rattle.std.proofs.Common.{◌-◌, ◌*◌, ap, arith}
use Rattle.haar.specs.Tiles.{tiles_before}
use Rattle.loads.specs.Tree.{minutes_of}
use Rattle.loads.proofs.Meeting.{gap_top, span_count}
use Rattle.loads.proofs.Passing.{down_left_of}
use Rattle.loads.proofs.walk.walk.Goals as goal

pub loop-band-init : goal.loop-band-init
loop-band-init g c =
    let r = c.args.chunk.now.reach in
    let e = ap (λ x. 16 * tiles_before (r.bands - x)) c.bands_in_use-band.ensures in
    g.met.P.Pass.skip _ _ _ _ _ _ c.requires (omega arith) (span_count r.bands r.size r.level r.index r.some r.held r.low r.inside c.bands_in_use-band.result)
    (λ s me lo hi. gap_top r.bands r.size r.level r.index r.some r.held r.low r.inside s me lo (omega (arith, e)))

pub inside-requires-clause-come : goal.inside-requires-clause-come
inside-requires-clause-come g c = (c.args.pass.now, down_left_of (λ k. g.P.Pass.passed c.args.chunk.now.reach (minutes_of c.args.chunk.now) c.args.pass.now c.loop-band.pass (16 * tiles_before k)) c.args.chunk.now.reach.bands c.loop-band.band c.loop-band-test.true c.loop-band.invariant)

pub over-requires-clause-come : goal.over-requires-clause-come
over-requires-clause-come g c = (c.args.pass.now, down_left_of (λ k. g.P.Pass.passed c.args.chunk.now.reach (minutes_of c.args.chunk.now) c.args.pass.now c.loop-band.pass (16 * tiles_before k)) c.args.chunk.now.reach.bands c.loop-band.band c.loop-band-test.true c.loop-band.invariant)
