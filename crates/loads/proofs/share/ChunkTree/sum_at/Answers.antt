use Rattle.std.proofs.Common.{◌+◌, ◌-◌, ◌/◌, ◌^◌, ◌≡◌, ◌+ℤ◌, ◌-ℤ◌, sym, ap, ◌∙◌, subst, arith, w64, SFits, to_z, of_z, rules}
use native.Mathlib.Nat.{div-eq_of_lt}
use Rattle.std.proofs.lemmas.Int.{to_z-of_z}
use Rattle.haar.specs.Tree.{S, D}
use Rattle.loads.specs.Transform.{Near}
use Rattle.loads.specs.Tree.{alone_of}
use Rattle.loads.proofs.Machine.{pair_fits, halved}
use Rattle.loads.proofs.Shares.{sum_near, difference_near, down_left, down_right, index_up}
use Rattle.loads.proofs.share.ChunkTree.sum_at.Goals as goal
use Rattle.loads.proofs.share.ChunkTree.sum_at.Goals.{After-difference_at-difference}

pub loop-half-init : goal.loop-half-init
loop-half-init c =
    let f : SFits w64 c.whole_sum-sum.result = search rules in
    let t = c.args.self.now in
    (c.requires.0, to_z-of_z w64 _ f ∙ c.whole_sum-sum.ensures.is ∙ ap (S (alone_of t) t.reach.level) (sym (div-eq_of_lt c.requires.1)))

pub difference_at-difference-requires : goal.difference_at-difference-requires
difference_at-difference-requires c =
    let r = c.args.self.now.reach in
    (omega arith, (omega arith, index_up r.level (c.loop-half.half - 1 + 1) c.args.level c.args.index (omega arith) (omega arith) c.requires.1))

-- the difference below the sum, as the machine has it
is : (c : After-difference_at-difference) → let t = c.args.self.now in to_z w64 (of_z w64 c.difference_at-difference.result) ≡ D (alone_of t) (c.loop-half.half - 1 + 1) (c.args.index / 2 ^ (c.loop-half.half - 1 + 1 - c.args.level))
is c = let f : SFits w64 c.difference_at-difference.result = search rules in to_z-of_z w64 _ f ∙ c.difference_at-difference.ensures

fits : (c : After-difference_at-difference) → let s = to_z w64 c.loop-half.sum-bits in let d = to_z w64 (of_z w64 c.difference_at-difference.result) in SFits w64 (s +ℤ d) × SFits w64 (s -ℤ d)
fits c =
    let t = c.args.self.now in
    pair_fits _ _
    (subst (Near (2 ^ 43)) (sym c.loop-half.invariant.1) (sum_near t.reach.level t.numbers.now c.loop-half.half _ t.ready t.reach.short (omega arith)))
    (subst (Near (2 ^ 61)) (sym (is c)) (difference_near t.reach.level t.numbers.now (c.loop-half.half - 1 + 1) _ t.ready t.reach.short (omega arith)))

pub overflow_add-sum : goal.overflow_add-sum
overflow_add-sum c = (fits ((goal.at.overflow_add-sum c).After-difference_at-difference)).0

pub overflow_sub-sum : goal.overflow_sub-sum
overflow_sub-sum c = (fits ((goal.at.overflow_sub-sum c).After-difference_at-difference)).1

pub loop-half-preserved-then-index-half-eq0 : goal.loop-half-preserved-then-index-half-eq0
loop-half-preserved-then-index-half-eq0 c =
    let d = (goal.at.loop-half-preserved-then-index-half-eq0 c).After-difference_at-difference in
    (omega arith, halved _ (fits d).0 ∙ down_left _ c.args.level c.args.index _ _ _ c.loop-half-test.true c.loop-half.invariant.1 (is d) c.if-index-half-eq0.true)

pub loop-half-preserved : goal.loop-half-preserved
loop-half-preserved c =
    let d = (goal.at.loop-half-preserved c).After-difference_at-difference in
    (omega arith, halved _ (fits d).1 ∙ down_right _ c.args.level c.args.index _ _ _ c.loop-half-test.true c.loop-half.invariant.1 (is d) c.if-index-half-eq0.false)
