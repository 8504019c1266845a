use Rattle.std.proofs.Common.{◌^◌, refl, arith, rules}
use Rattle.loads.proofs.Inverse.{between, low_back, high_back, parted_unhaar}
use Rattle.loads.proofs.transform.+restore.Goals as goal

pub part-requires : goal.part-requires
part-requires t c =
    let k = between c.args.m _ c.args.numbers.now (omega arith) c.requires.0 refl in
    (k.0, (k.1, c.requires.1))

pub restore-requires : goal.restore-requires
restore-requires t c =
    (search rules, low_back c.args.m _ c.args.numbers.now _ (omega arith) c.requires.0 refl c.part.ensures (2 ^ 61) c.requires.1 _ c.split_at_mut-low.ensures.front)

pub restore-requires-in_default : goal.restore-requires-in_default
restore-requires-in_default t c =
    (search rules, high_back c.args.m _ c.args.numbers.now _ (omega arith) c.requires.0 refl c.part.ensures (2 ^ 61) c.requires.1 _ c.split_at_mut-low.ensures.back)

pub returns-in_default : goal.returns-in_default
returns-in_default t c =
    let s = c.split_at_mut-low.ensures in
    parted_unhaar c.args.m _ c.args.numbers.now (omega arith) c.requires.0 refl _ _ _ _ _ c.part.ensures s.front s.back c.restore.ensures c.restore-in_default.ensures
