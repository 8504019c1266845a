use Rattle.std.proofs.Common.{◌^◌, ◌≤◌, arith, pow_mono}
use Rattle.std.proofs.lemmas.Nat.{one_shl}
use Rattle.haar.proofs.written.cells_written.Goals as goal

pub loop-band-init : goal.loop-band-init
loop-band-init c =
    let l : c.args.level ≤ 12 = omega arith in
    let b : 2 ^ c.args.level ≤ 4096 = pow_mono l in
    let e = one_shl c.args.level 32 (omega arith) in
    (omega arith, omega arith)
