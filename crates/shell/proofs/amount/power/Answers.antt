use Rattle.std.proofs.Common.{◌<◌, sym, subst, arith}
use Rattle.std.proofs.Math.Nat.{one-le-pow}
use Rattle.shell.proofs.amount.power.Goals as goal

pub returns-clause-some : goal.returns-clause-some
returns-clause-some c = subst (λ n. 0 < n) (sym c.pow.ensures) (one-le-pow c.args.places 10 (omega arith))
