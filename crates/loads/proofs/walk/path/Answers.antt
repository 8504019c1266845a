use Rattle.std.proofs.Common.{◌≡◌, ◌+◌, ◌-◌, ◌<◌, ◌∙◌, pow_pos, arith, w64, SFits, rules, to_z, of_z}
use Rattle.std.proofs.lemmas.Int.{to_z-of_z}
use Rattle.haar.specs.declared.coefficient.Coefficient.TheVariants.{Difference}
use Rattle.loads.specs.Reach.{Takes, first_met, row_cell}
use Rattle.loads.specs.Tree.{minutes_of}
use Rattle.haar.proofs.Numbers.{same_pow}
use Rattle.loads.proofs.Meeting.{index_bound}
use Rattle.loads.proofs.Rows.{row_slot, path_index, row_before, row_after, row_fits, row_count}
use Rattle.loads.proofs.Passing.{handed}
use Rattle.loads.proofs.walk.path.Goals as goal
use Rattle.loads.proofs.walk.path.Goals.{After-path_share}

taken : (g : _) (c : After-path_share g) → let r = c.args.chunk.now.reach in Takes r.bands r.size r.level r.index (minutes_of c.args.chunk.now) c.row_start-cell.result.number (to_z w64 (of_z w64 c.path_share.result))
taken g c =
    let r = c.args.chunk.now.reach in
    let q = c.requires.level in
    let b : c.args.band < r.bands = omega (arith, r.held, q) in
    let f : SFits w64 c.path_share.result = search rules in
    let s = row_slot r.bands r.size r.level r.index r.some r.held r.low r.inside c.args.band b (omega (arith, c.requires.above, q)) c.args.level q.0 q.1.0 q.1.1 0 (pow_pos (r.level - c.args.level)) in
    let z : first_met r.level r.index c.args.level + 0 ≡ first_met r.level r.index c.args.level = omega arith in
    record {
      coefficient = Difference c.args.level (first_met r.level r.index c.args.level);
      meets = rw z at s.0;
      numbered = omega (arith, rw z at s.1, c.row_start-cell.ensures.is);
      is = to_z-of_z w64 _ f ∙ c.path_share.ensures;
    }

come : (g : _) (c : After-path_share g) (x : _) → g.P.Pass.passed c.args.chunk.now.reach (minutes_of c.args.chunk.now) x c.args.pass.now (row_cell c.args.chunk.now.reach.bands c.args.chunk.now.reach.level c.args.chunk.now.reach.index c.args.band c.args.level) → g.P.Pass.passed c.args.chunk.now.reach (minutes_of c.args.chunk.now) x c.args.pass.now c.row_start-cell.result.number
come g c x h =
    let r = c.args.chunk.now.reach in
    let q = c.requires.level in
    let b : c.args.band < r.bands = omega (arith, r.held, q) in
    let e = c.row_start-cell.ensures.is in
    g.met.P.Pass.skip _ _ x _ _ _ h (omega (arith, e)) (omega (arith, e, row_fits r.bands r.size r.level r.index r.some r.held r.low r.inside c.args.band b (omega (arith, c.requires.above, q)) c.args.level q.0 q.1.0 q.1.1, row_count r.bands r.size r.level r.index r.some r.held r.low r.inside c.args.band b (omega (arith, c.requires.above, q)) c.args.level q.0 q.1.0 q.1.1)) (λ s me lo hi. row_before r.bands r.size r.level r.index r.some r.held r.low r.inside c.args.band b (omega (arith, c.requires.above, q)) c.args.level q.0 q.1.0 q.1.1 s me lo (omega (arith, e)))

pub invariant_of-shr : goal.invariant_of-shr
invariant_of-shr g c =
    let r = c.args.chunk.now.reach in
    record { below = omega (arith, index_bound r.bands r.size r.level r.index r.few r.held r.inside) }

pub row_start-cell-requires-clause-first : goal.row_start-cell-requires-clause-first
row_start-cell-requires-clause-first g c =
    let r = c.args.chunk.now.reach in
    let q = c.requires.level in
    c.shr-index.ensures ∙ path_index r.bands r.size r.level r.index r.some r.held r.low r.inside c.args.band (omega (arith, r.held, q)) (omega (arith, c.requires.above, q)) c.args.level q.0 q.1.0 q.1.1 c.requires.above

pub take-requires : goal.take-requires
take-requires g c =
    let q = c.requires.come in
    (c.args.chunk.now.reach, minutes_of c.args.chunk.now, q.0, come g c q.0 q.1, taken g c)

pub returns : goal.returns
returns g c = λ x h.
    let a = (goal.at.returns g c).After-path_share in
    let r = c.args.chunk.now.reach in
    let q = c.requires.level in
    let b : c.args.band < r.bands = omega (arith, r.held, q) in
    let e = c.row_start-cell.ensures.is in
    let z = same_pow (r.level - c.args.level) 0 (omega (arith, c.requires.above)) in
    handed c.take.result _ _ _ (λ p. g.met.P.Pass.skip _ _ x _ _ _ p (omega (arith, e, row_fits r.bands r.size r.level r.index r.some r.held r.low r.inside c.args.band b (omega (arith, c.requires.above, q)) c.args.level q.0 q.1.0 q.1.1, z)) (row_count r.bands r.size r.level r.index r.some r.held r.low r.inside c.args.band b (omega (arith, c.requires.above, q)) c.args.level q.0 q.1.0 q.1.1) (λ s me lo hi. row_after r.bands r.size r.level r.index r.some r.held r.low r.inside c.args.band b (omega (arith, c.requires.above, q)) c.args.level q.0 q.1.0 q.1.1 s me (omega (arith, e, z)) hi))
    (c.take.ensures _ _ x (come g a x h) (taken g a))
