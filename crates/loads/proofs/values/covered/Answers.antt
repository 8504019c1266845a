use Rattle.std.proofs.Common.{max, ap₂, ◌∙◌, arith}
use Rattle.warehouse.proofs.Marks.{end_shl, end_inside}
use Rattle.loads.proofs.values.covered.Goals as goal

pub returns-clause-is : goal.returns-clause-is
returns-clause-is g c = c.max.ensures ∙ ap₂ max c.mark.ensures.is (end_shl _ c.args.level c.args.index c.mark.ensures.few c.requires.0 c.requires.1)

pub returns-clause-most : goal.returns-clause-most
returns-clause-most g c =
    let e = end_shl _ c.args.level c.args.index c.mark.ensures.few c.requires.0 c.requires.1 in
    let l = end_inside _ c.args.level c.args.index c.requires.0 c.requires.1 in
    omega (arith, c.max.ensures, e, l, c.mark.ensures.most)
