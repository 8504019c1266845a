use Rattle.std.proofs.Common.{◌^◌, ◌≤◌, arith, pow_mono}
use Rattle.loads.proofs.values.add_values.Goals as goal

pub first_outside-requires : goal.first_outside-requires
first_outside-requires g c =
    let b : 2 ^ c.args.level ≤ 4096 = pow_mono c.requires.short in
    omega arith
