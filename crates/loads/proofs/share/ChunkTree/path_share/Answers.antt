use Rattle.std.proofs.Common.{◌≡◌, pos, ◌-ℤ◌, neg_ℤ, ◌∙◌, arith, w64, SFits, rules}
use Rattle.std.proofs.lemmas.Int.{to_z-of_z, ints}
use Rattle.haar.specs.Tree.{S}
use Rattle.loads.specs.Tree.{alone_of}
use Rattle.loads.proofs.Meeting.{path_met}
use Rattle.loads.proofs.Splits.{share_left, share_right}
use Rattle.loads.proofs.share.ChunkTree.path_share.Goals as goal

pub returns-then-self-level-eq0 : goal.returns-then-self-level-eq0
returns-then-self-level-eq0 c =
    let r = c.args.self.now.reach in
    let f : SFits w64 c.whole_sum-sum.result = search rules in
    to_z-of_z w64 _ f ∙ c.whole_sum-sum.ensures.is ∙ share_left _ _ _ _ _ _ r.low c.requires.0 (omega arith) (path_met r.size r.level r.index r.low r.inside c.args.level c.requires.0 c.requires.1)

pub returns-else-self-level-eq0 : goal.returns-else-self-level-eq0
returns-else-self-level-eq0 c =
    let r = c.args.self.now.reach in
    let f : SFits w64 c.whole_sum-sum.result = search rules in
    let g : SFits w64 (pos 0 -ℤ c.whole_sum-sum.result) = search rules in
    let z : pos 0 -ℤ c.whole_sum-sum.result ≡ neg_ℤ (S (alone_of c.args.self.now) r.level 0) = omega (arith, ints, c.whole_sum-sum.ensures.is) in
    simp to_z-of_z (z ∙ share_right _ _ _ _ _ _ r.low c.requires.0 (omega arith) (path_met r.size r.level r.index r.low r.inside c.args.level c.requires.0 c.requires.1))
