use Rattle.std.proofs.Common.{◌≡◌, ◌+◌, ◌-◌, ◌*◌, ◌<◌, Err, ap, ◌∙◌, arith, w64, SFits, rules, to_z, of_z}
use Rattle.std.proofs.lemmas.Int.{to_z-of_z}
use Rattle.std.proofs.lemmas.Result.{err_from_is_err_and}
use Rattle.haar.specs.declared.coefficient.Coefficient.TheVariants.{TileSum}
use Rattle.haar.specs.Tiles.{tiles_before}
use Rattle.loads.specs.Reach.{Takes, first_met, row_cell}
use Rattle.loads.specs.Tree.{minutes_of}
use Rattle.loads.proofs.Meeting.{span_most, span_count, gap_before, gap_after}
use Rattle.loads.proofs.Rows.{whole_slot, gap_rows, rows_fit, rows_end}
use Rattle.loads.proofs.Splits.{share_over}
use Rattle.loads.proofs.Passing.{passed_on, down_up}
use Rattle.loads.proofs.walk.over.Goals as goal
use Rattle.loads.proofs.walk.over.Goals.{After-whole_sum}

taken : (g : _) (c : After-whole_sum g) → let r = c.args.chunk.now.reach in Takes r.bands r.size r.level r.index (minutes_of c.args.chunk.now) c.first_cell.result.number (to_z w64 (of_z w64 c.whole_sum.result))
taken g c =
    let r = c.args.chunk.now.reach in
    let f : SFits w64 c.whole_sum.result = search rules in
    let s = whole_slot r.bands r.size r.level r.index r.some r.held r.low r.inside c.args.band (omega (arith, r.held, c.requires.used)) c.requires.over c.requires.used in
    record {
      coefficient = TileSum c.args.band (first_met r.level r.index (4 * c.args.band + 4));
      meets = s.0;
      numbered = omega (arith, s.1, c.first_cell.ensures.is);
      is = to_z-of_z w64 _ f ∙ c.whole_sum.ensures.is ∙ share_over _ _ _ _ _ _ r.low (omega (arith, c.requires.over)) s.0;
    }

-- slot 0 comes next
come : (g : _) (c : After-whole_sum g) (x : _) → g.P.Pass.passed c.args.chunk.now.reach (minutes_of c.args.chunk.now) x c.args.pass.now (16 * tiles_before (c.args.chunk.now.reach.bands - 1 - c.args.band)) → g.P.Pass.passed c.args.chunk.now.reach (minutes_of c.args.chunk.now) x c.args.pass.now c.first_cell.result.number
come g c x h =
    let r = c.args.chunk.now.reach in
    let b : c.args.band < r.bands = omega (arith, r.held, c.requires.used) in
    let m = span_most r.bands r.size r.level r.index r.some r.held r.low r.inside c.args.band b in
    let k = span_count r.bands r.size r.level r.index r.some r.held r.low r.inside c.args.band in
    let e = c.first_cell.ensures.is in
    g.met.P.Pass.skip _ _ x _ _ _ h (omega (arith, e)) (omega (arith, e, m, k)) (λ s me lo hi. gap_before r.bands r.size r.level r.index r.some r.held r.low r.inside c.args.band b s me lo (omega (arith, e)))

pub take-requires : goal.take-requires
take-requires g c =
    let q = c.requires.come in
    (c.args.chunk.now.reach, minutes_of c.args.chunk.now, q.0, come g c q.0 q.1, taken g c)

pub returns-in_err-take : goal.returns-in_err-take
returns-in_err-take g c = λ x h.
    let a = (goal.at.returns-in_err-take g c).After-whole_sum in
    let p = err_from_is_err_and c.from_residual.result c.from_residual.ensures.1 in
    passed_on c.take.result c.from_residual.result _ _ _ _ c.in_err-take.was (p.1 ∙ ap Err p.2) (c.take.ensures _ _ x (come g a x h) (taken g a))

pub loop-below-init : goal.loop-below-init
loop-below-init g c =
    let a = (goal.at.loop-below-init g c).After-whole_sum in
    let r = c.args.chunk.now.reach in
    let b : c.args.band < r.bands = omega (arith, r.held, c.requires.used) in
    let e = c.first_cell.ensures.is in
    let f = rows_fit r.bands r.size r.level r.index r.some r.held r.low r.inside c.args.band b c.requires.over c.requires.used in
    let q = c.min-below.ensures in (
      omega (arith, q, c.requires.used),
      λ x h.
          rw q (g.met.P.Pass.skip _ _ x _ _ _ (rw c.in_ok-take.was at (c.take.ensures _ _ x (come g a x h) (taken g a))) (omega (arith, e, f)) (omega (arith, f))
          (λ s me lo hi. gap_rows r.bands r.size r.level r.index r.some r.held r.low r.inside c.args.band b c.requires.over c.requires.used s me (omega (arith, e)) hi)),
    )

pub row-requires-clause-come : goal.row-requires-clause-come
row-requires-clause-come g c =
    let q = c.requires.come in
    (q.0, down_up (λ j. g.P.Pass.passed c.args.chunk.now.reach (minutes_of c.args.chunk.now) q.0 c.loop-below.pass (row_cell c.args.chunk.now.reach.bands c.args.chunk.now.reach.level c.args.chunk.now.reach.index c.args.band j)) c.loop-below.below (omega (arith, c.loop-below-test.true)) (c.loop-below.invariant.1 q.0 q.1))

pub returns-in_err-row : goal.returns-in_err-row
returns-in_err-row g c = λ x h.
    let p = err_from_is_err_and c.from_residual-in_err-row.result c.from_residual-in_err-row.ensures.1 in
    passed_on c.row.result c.from_residual-in_err-row.result _ _ _ _ c.in_err-row.was (p.1 ∙ ap Err p.2) (c.row.ensures x (down_up (λ j. g.P.Pass.passed c.args.chunk.now.reach (minutes_of c.args.chunk.now) x c.loop-below.pass (row_cell c.args.chunk.now.reach.bands c.args.chunk.now.reach.level c.args.chunk.now.reach.index c.args.band j)) c.loop-below.below (omega (arith, c.loop-below-test.true)) (c.loop-below.invariant.1 x h)))

pub loop-below-preserved : goal.loop-below-preserved
loop-below-preserved g c =
    let e : c.loop-below.below - 1 + 1 - 1 ≡ c.loop-below.below - 1 = omega arith in
    (omega arith, λ x h. rw (c.in_ok-row.was, e) at (c.row.ensures x (down_up (λ j. g.P.Pass.passed c.args.chunk.now.reach (minutes_of c.args.chunk.now) x c.loop-below.pass (row_cell c.args.chunk.now.reach.bands c.args.chunk.now.reach.level c.args.chunk.now.reach.index c.args.band j)) c.loop-below.below (omega (arith, c.loop-below-test.true)) (c.loop-below.invariant.1 x h))))

pub returns : goal.returns
returns g c = λ x h.
    let r = c.args.chunk.now.reach in
    let b : c.args.band < r.bands = omega (arith, r.held, c.requires.used) in
    let m = span_most r.bands r.size r.level r.index r.some r.held r.low r.inside c.args.band b in
    let k = span_count r.bands r.size r.level r.index r.some r.held r.low r.inside c.args.band in
    let z : c.loop-below.below ≡ 4 * c.args.band = omega (arith, c.loop-below.invariant.0, c.loop-below-test.false) in
    let e = ap (row_cell r.bands r.level r.index c.args.band) z ∙ rows_end r.bands r.size r.level r.index r.some r.held r.low r.inside c.args.band b c.requires.over in
    g.met.P.Pass.skip _ _ x _ _ _ (rw e at (c.loop-below.invariant.1 x h)) m k (gap_after r.bands r.size r.level r.index r.some r.held r.low r.inside c.args.band b)
