use Rattle.std.proofs.Common.{◌^◌, ◌∙◌, refl, arith, rules}
use Rattle.loads.proofs.Inverse.{low_half, high_half, joinable, joined_haar}
use Rattle.loads.proofs.transform.+transform.Goals as goal

pub transform-requires : goal.transform-requires
transform-requires t c =
    let a = low_half c.args.m _ c.args.numbers.now (omega arith) c.requires.0 refl (2 ^ 31) _ c.requires.1.1 c.split_at_mut-low.ensures.front in
    (search rules, (a.0, (omega arith, a.1)))

pub transform-requires-in_default : goal.transform-requires-in_default
transform-requires-in_default t c =
    let a = high_half c.args.m _ c.args.numbers.now (omega arith) c.requires.0 refl (2 ^ 31) _ c.requires.1.1 c.split_at_mut-low.ensures.back in
    (search rules, (a.0, (omega arith, a.1)))

pub join-requires : goal.join-requires
join-requires t c =
    let s = c.split_at_mut-low.ensures in
    joinable c.args.m _ c.args.numbers.now (omega arith) c.requires.0 refl _ _ _ _ s.front s.back c.transform.ensures c.transform-in_default.ensures c.requires.1.0 c.requires.1.1

pub returns-in_default : goal.returns-in_default
returns-in_default t c =
    let s = c.split_at_mut-low.ensures in
    c.join.ensures ∙ joined_haar c.args.m _ c.args.numbers.now (omega arith) c.requires.0 refl _ _ _ _ s.front s.back c.transform.ensures c.transform-in_default.ensures
