use Rattle.std.proofs.Common.{◌-◌, arith}
use Rattle.std.proofs.lemmas.Bool.{leb-true, le-leb}
use Rattle.haar.proofs.cells.is_inside.Goals as goal

pub returns-then-level-size : goal.returns-then-level-size
returns-then-level-size c =
    let b = c.bits_of.ensures (c.args.size - c.args.level) in (
      λ t. (c.if-level-size.true, b.0 (omega (arith, leb-true _ _ t))),
      λ u. le-leb _ _ (omega (arith, b.1 u.1)),
    )
