use Rattle.std.proofs.Common.{◌≡◌, ◌+◌, ◌-◌, ◌^◌, ◌<◌, Err, sym, ap, ◌∙◌, arith, subst, w64, SFits, rules, to_z, of_z}
use Rattle.std.proofs.lemmas.Nat.{one_shl}
use Rattle.std.proofs.lemmas.Int.{to_z-of_z}
use Rattle.std.proofs.lemmas.Result.{err_from_is_err_and}
use Rattle.haar.specs.declared.coefficient.Coefficient.TheVariants.{Difference}
use Rattle.loads.specs.Reach.{Takes, first_met}
use Rattle.haar.specs.Tree.{D}
use Rattle.loads.specs.Tree.{minutes_of, alone_of}
use Rattle.loads.proofs.Meeting.{index_bound, local_index}
use Rattle.loads.proofs.Rows.{row_slot, row_index, row_before, row_after, row_fits, row_count}
use Rattle.loads.proofs.Splits.{share_diff}
use Rattle.loads.proofs.Passing.{passed_on}
use Rattle.loads.proofs.walk.row.Goals as goal
use Rattle.loads.proofs.walk.row.Goals.{After-difference_at}

taken : (g : _) (c : After-difference_at g) → let r = c.args.chunk.now.reach in
    Takes r.bands r.size r.level r.index (minutes_of c.args.chunk.now)
    c.add.result.number
    (to_z w64 (of_z w64 c.difference_at.result))
taken g c =
    let r = c.args.chunk.now.reach in
    let q = c.requires.level in
    let b : c.args.band < r.bands = omega (arith, r.held, q) in
    let f : SFits w64 c.difference_at.result = search rules in
    let w = one_shl (r.level - c.args.level) 32 (omega (arith, r.short)) in
    let a : c.loop-at.at < 2 ^ (r.level - c.args.level) = omega (arith, w, c.loop-at-test.true) in
    let s = row_slot r.bands r.size r.level r.index r.some r.held r.low r.inside c.args.band b c.requires.over c.args.level q.0 q.1.0 q.1.1 c.loop-at.at a in
    record {
      coefficient = Difference c.args.level (first_met r.level r.index c.args.level + c.loop-at.at);
      meets = s.0;
      numbered = omega (arith, s.1, c.row_start-cell.ensures.is, c.add.ensures);
      is = to_z-of_z w64 _ f ∙ c.difference_at.ensures ∙ ap (D (alone_of c.args.chunk.now) c.args.level) (local_index r.level r.index c.args.level c.loop-at.at (omega (arith, c.if-level-chunk.false)) a)
          ∙ share_diff _ _ _ _ _ _ (omega (arith, q)) (omega (arith, c.if-level-chunk.false)) s.0;
    }

pub invariant_of-shl : goal.invariant_of-shl
invariant_of-shl g c =
    let r = c.args.chunk.now.reach in
    record { below = omega (arith, index_bound r.bands r.size r.level r.index r.few r.held r.inside) }

pub shl-index-requires : goal.shl-index-requires
shl-index-requires g c =
    let r = c.args.chunk.now.reach in
    let q = c.requires.level in
    (omega (arith, r.short), omega (arith, row_index r.bands r.size r.level r.index r.some r.held r.low r.inside c.args.band (omega (arith, r.held, q)) c.requires.over c.args.level q.0 q.1.0 q.1.1 (omega (arith, c.if-level-chunk.false)) r.few))

pub row_start-cell-requires-clause-first : goal.row_start-cell-requires-clause-first
row_start-cell-requires-clause-first g c =
    let r = c.args.chunk.now.reach in
    let q = c.requires.level in
    c.shl-index.ensures ∙ (row_index r.bands r.size r.level r.index r.some r.held r.low r.inside c.args.band (omega (arith, r.held, q)) c.requires.over c.args.level q.0 q.1.0 q.1.1 (omega (arith, c.if-level-chunk.false)) r.few).0

pub loop-at-init : goal.loop-at-init
loop-at-init g c = λ x h.
    let r = c.args.chunk.now.reach in
    let q = c.requires.level in
    let b : c.args.band < r.bands = omega (arith, r.held, q) in
    let e = c.row_start-cell.ensures.is in
    let f = row_fits r.bands r.size r.level r.index r.some r.held r.low r.inside c.args.band b c.requires.over c.args.level q.0 q.1.0 q.1.1 in
    let k = row_count r.bands r.size r.level r.index r.some r.held r.low r.inside c.args.band b c.requires.over c.args.level q.0 q.1.0 q.1.1 in
    g.met.P.Pass.skip _ _ x _ _ _ h (omega (arith, e)) (omega (arith, e, f, k)) (λ s me lo hi. row_before r.bands r.size r.level r.index r.some r.held r.low r.inside c.args.band b c.requires.over c.args.level q.0 q.1.0 q.1.1 s me lo (omega (arith, e)))

-- the cell comes next
next : (g : _) (c : After-difference_at g) (x : _) → g.P.Pass.passed c.args.chunk.now.reach (minutes_of c.args.chunk.now) x c.loop-at.pass (c.row_start-cell.result.number + c.loop-at.at) → g.P.Pass.passed c.args.chunk.now.reach (minutes_of c.args.chunk.now) x c.loop-at.pass c.add.result.number
next g c x h = subst (λ a. g.P.Pass.passed c.args.chunk.now.reach (minutes_of c.args.chunk.now) x c.loop-at.pass a) (sym c.add.ensures) h

pub take-requires : goal.take-requires
take-requires g c =
    let a = (goal.at.take-requires g c).After-difference_at in
    let come = c.requires.come in
    (c.args.chunk.now.reach, minutes_of c.args.chunk.now, come.0, next g a come.0 (c.loop-at.invariant come.0 come.1), taken g a)

pub returns-in_err-take : goal.returns-in_err-take
returns-in_err-take g c = λ x h.
    let a = (goal.at.returns-in_err-take g c).After-difference_at in
    let p = err_from_is_err_and c.from_residual.result c.from_residual.ensures.1 in
    passed_on c.take.result c.from_residual.result _ _ _ _ c.in_err-take.was (p.1 ∙ ap Err p.2) (c.take.ensures _ _ x (next g a x (c.loop-at.invariant x h)) (taken g a))

pub loop-at-preserved : goal.loop-at-preserved
loop-at-preserved g c = λ x h.
    let a = (goal.at.loop-at-preserved g c).After-difference_at in
    let q : c.add.result.number + 1 ≡ c.row_start-cell.result.number + (c.loop-at.at + 1) = omega (arith, c.add.ensures) in
    rw (c.in_ok-take.was, q) at (c.take.ensures _ _ x (next g a x (c.loop-at.invariant x h)) (taken g a))

pub returns : goal.returns
returns g c = λ x h.
    let r = c.args.chunk.now.reach in
    let q = c.requires.level in
    let b : c.args.band < r.bands = omega (arith, r.held, q) in
    let w = one_shl (r.level - c.args.level) 32 (omega (arith, r.short)) in
    let e = c.row_start-cell.ensures.is in
    let f = row_fits r.bands r.size r.level r.index r.some r.held r.low r.inside c.args.band b c.requires.over c.args.level q.0 q.1.0 q.1.1 in
    let z : c.loop-at.at ≡ 2 ^ (r.level - c.args.level) = omega (arith, w, c.loop-at-test.false, c.loop-at.auto) in
    g.met.P.Pass.skip _ _ x _ _ _ (c.loop-at.invariant x h) (omega (arith, e, f, z)) (row_count r.bands r.size r.level r.index r.some r.held r.low r.inside c.args.band b c.requires.over c.args.level q.0 q.1.0 q.1.1) (λ s me lo hi. row_after r.bands r.size r.level r.index r.some r.held r.low r.inside c.args.band b c.requires.over c.args.level q.0 q.1.0 q.1.1 s me (omega (arith, e, z)) hi)
