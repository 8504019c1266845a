use Rattle.std.proofs.Common.{◌^◌, get_or, pos, sym, ◌∙◌, subst, arith, pow_pos, w64, SFits, rules}
use Rattle.std.proofs.lemmas.Int.{to_z-of_z}
use Rattle.loads.specs.Transform.{Near}
use Rattle.loads.proofs.Shares.{ready_length, ready_sum, sum_near}
use Rattle.loads.proofs.share.ChunkTree.whole_sum.Goals as goal

pub bounds-self-0 : goal.bounds-self-0
bounds-self-0 c = omega (arith, ready_length _ _ c.args.self.now.ready, pow_pos c.args.self.now.reach.level)

pub returns : goal.returns
returns c =
    let r = c.args.self.now.reach in
    let f : SFits w64 (get_or c.args.self.now.numbers.now 0 (pos 0)) = search rules in
    let e = to_z-of_z w64 _ f ∙ ready_sum _ _ c.args.self.now.ready in
    let n = sum_near r.level c.args.self.now.numbers.now r.level 0 c.args.self.now.ready r.short (omega arith) in
    record { is = e; near = subst (Near (2 ^ 43)) (sym e) n }
