use Rattle.std.proofs.Common.{◌+◌, ◌-◌, ◌*◌, ◌%◌, ◌^◌, get_or, pos, ap, ◌∙◌, arith, w64, SFits, rules}
use Rattle.std.proofs.lemmas.Int.{to_z-of_z}
use Rattle.loads.proofs.Shares.{ready_length, ready_difference, place_in, shifted_place}
use Rattle.loads.proofs.share.ChunkTree.difference_at.Goals as goal

pub bounds-self-index : goal.bounds-self-index
bounds-self-index c =
    let r = c.args.self.now.reach in
    let l = ready_length _ _ c.args.self.now.ready in
    let b = place_in r.level c.args.level c.args.index c.requires.0 c.requires.1.0 c.requires.1.1 in
    let e = shifted_place c.args.level c.args.index (omega (arith, r.short)) in
    omega arith

pub returns : goal.returns
returns c =
    let r = c.args.self.now.reach in
    let hs = c.args.self.now.numbers.now in
    let e = shifted_place c.args.level c.args.index (omega (arith, r.short)) in
    let f : SFits w64 (get_or hs (c.args.index * (1 * 2 ^ c.args.level % 2 ^ 64) + 1 * 2 ^ (c.args.level - 1) % 2 ^ 64) (pos 0)) = search rules in
    to_z-of_z w64 _ f ∙ ap (λ x. get_or hs x (pos 0)) e
    ∙ ready_difference r.level hs c.args.level c.args.index c.args.self.now.ready c.requires.0 c.requires.1.0 c.requires.1.1
