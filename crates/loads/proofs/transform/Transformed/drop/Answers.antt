use Rattle.std.proofs.Common.{sym, ap, ◌∙◌, subst, length, ◌^◌}
use Rattle.loads.specs.Transform.{Within}
use Rattle.loads.proofs.Inverse.{within_unhaar}
use Rattle.loads.proofs.transform.Transformed.drop.Goals as goal

-- half of a sum of numbers within 2^61 is within it, so what comes back is
pub invariant_of-self : goal.invariant_of-self
invariant_of-self c =
    let u = within_unhaar _ _ _ c.args.self.many c.args.self.small in
    record { many = ap length c.restore.ensures ∙ u.0; small = subst (Within (2 ^ 61)) (sym c.restore.ensures) u.1 }
