use Rattle.std.proofs.Common.{◌≡◌, ◌+◌, ◌-◌, ◌*◌, ◌^◌, ◌<◌, Err, sym, ap, ◌∙◌, arith, subst, w64, SFits, rules, to_z, of_z}
use Rattle.std.proofs.lemmas.Int.{to_z-of_z}
use Rattle.std.proofs.lemmas.Result.{err_from_is_err_and}
use Rattle.loads.specs.Reach.{Takes, first_cell}
use Rattle.loads.specs.Tree.{minutes_of}
use Rattle.loads.proofs.Meeting.{span_most, span_count, gap_before, gap_after, tile_cell}
use Rattle.loads.proofs.Passing.{passed_on}
use Rattle.loads.proofs.walk.inside.Goals as goal
use Rattle.loads.proofs.walk.inside.Goals.{After-first_cell-start, After-tile_share}

held : (g : _) (c : After-first_cell-start g) → c.args.band < c.args.chunk.now.reach.bands
held g c = omega (arith, c.args.chunk.now.reach.held, c.args.chunk.now.reach.low)

pub loop-at-init : goal.loop-at-init
loop-at-init g c = λ x h.
    let r = c.args.chunk.now.reach in
    let b = held g ((goal.at.loop-at-init g c).After-first_cell-start) in
    let m = span_most r.bands r.size r.level r.index r.some r.held r.low r.inside c.args.band b in
    let k = span_count r.bands r.size r.level r.index r.some r.held r.low r.inside c.args.band in
    g.met.P.Pass.skip _ _ x _ _ (c.first_cell-start.result.number + 0) h (omega (arith, c.first_cell-start.ensures.is)) (omega (arith, c.first_cell-start.ensures.is))
    (λ s me lo hi. gap_before r.bands r.size r.level r.index r.some r.held r.low r.inside c.args.band b s me lo (omega (arith, c.first_cell-start.ensures.is)))

taken : (g : _) (c : After-tile_share g) → let r = c.args.chunk.now.reach in Takes r.bands r.size r.level r.index (minutes_of c.args.chunk.now) c.add.result.number (to_z w64 (of_z w64 c.tile_share.result))
taken g c =
    let r = c.args.chunk.now.reach in
    let f : SFits w64 c.tile_share.result = search rules in
    let s = tile_cell r.bands r.size r.level r.index r.some r.held r.low r.inside c.args.band c.loop-at.at c.requires.inside (omega (arith, c.loop-at-test.true, r.short)) (omega (arith, r.held, r.low)) in
    record {
      coefficient = s.0;
      meets = s.1;
      numbered = omega (arith, s.2, c.first_cell-start.ensures.is, c.add.ensures);
      is = to_z-of_z w64 _ f ∙ c.tile_share.ensures s.0 s.1 s.3;
    }

-- the cell comes next
next : (g : _) (c : After-tile_share g) (x : _) → g.P.Pass.passed c.args.chunk.now.reach (minutes_of c.args.chunk.now) x c.loop-at.pass (c.first_cell-start.result.number + c.loop-at.at) → g.P.Pass.passed c.args.chunk.now.reach (minutes_of c.args.chunk.now) x c.loop-at.pass c.add.result.number
next g c x h = subst (λ a. g.P.Pass.passed c.args.chunk.now.reach (minutes_of c.args.chunk.now) x c.loop-at.pass a) (sym c.add.ensures) h

pub take-requires : goal.take-requires
take-requires g c =
    let a = (goal.at.take-requires g c).After-tile_share in
    let come = c.requires.come in
    (c.args.chunk.now.reach, minutes_of c.args.chunk.now, come.0, next g a come.0 (c.loop-at.invariant come.0 come.1), taken g a)

pub returns-in_err-take : goal.returns-in_err-take
returns-in_err-take g c = λ x h.
    let a = (goal.at.returns-in_err-take g c).After-tile_share in
    let p = err_from_is_err_and c.from_residual.result c.from_residual.ensures.1 in
    passed_on c.take.result c.from_residual.result _ _ _ _ c.in_err-take.was (p.1 ∙ ap Err p.2) (c.take.ensures _ _ x (next g a x (c.loop-at.invariant x h)) (taken g a))

pub loop-at-preserved : goal.loop-at-preserved
loop-at-preserved g c = λ x h.
    let a = (goal.at.loop-at-preserved g c).After-tile_share in
    let q : c.add.result.number + 1 ≡ c.first_cell-start.result.number + (c.loop-at.at + 1) = omega (arith, c.add.ensures) in
    rw (c.in_ok-take.was, q) at (c.take.ensures _ _ x (next g a x (c.loop-at.invariant x h)) (taken g a))

pub returns : goal.returns
returns g c = λ x h.
    let r = c.args.chunk.now.reach in
    let b : c.args.band < r.bands = omega (arith, r.held, r.low, c.requires.inside) in
    let k = span_count r.bands r.size r.level r.index r.some r.held r.low r.inside c.args.band in
    let m = span_most r.bands r.size r.level r.index r.some r.held r.low r.inside c.args.band b in
    let e : c.first_cell-start.result.number + c.loop-at.at ≡ first_cell r.bands r.level r.index c.args.band + 16 * 2 ^ (r.level - (4 * c.args.band + 4)) = omega (arith, c.first_cell-start.ensures.is, c.loop-at-test.false, c.loop-at.auto, r.short) in
    g.met.P.Pass.skip _ _ x _ _ _ (rw e at (c.loop-at.invariant x h)) m k (gap_after r.bands r.size r.level r.index r.some r.held r.low r.inside c.args.band b)
