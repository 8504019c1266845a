use Rattle.std.proofs.Common.{◌≡◌, ◌+◌, ◌-◌, ◌*◌, ◌%◌, ◌^◌, ap, arith}
use Rattle.haar.specs.Tiles.{depth}
use Rattle.loads.specs.Reach.{first_met, row_cell}
use Rattle.loads.proofs.Rows.{row_bound}
use Rattle.loads.proofs.walk.row_start.Goals as goal
use Rattle.loads.proofs.walk.row_start.Goals.{After-add}

number : (c : After-add) → let r = c.args.reach in c.add.result.number ≡ row_cell r.bands r.level r.index c.args.band c.args.level + first_met r.level r.index c.args.level % 2 ^ (4 * c.args.band + 4 - c.args.level)
number c =
    let e : depth c.args.level ≡ 4 * c.args.band + 4 - c.args.level = omega (arith, c.requires.level) in
    let s = c.slot.ensures.is (omega (arith, c.requires.level)) in
    omega (arith, c.first_cell.ensures.is, s, ap (λ h. 2 ^ h + c.args.index.number % 2 ^ h) e, ap (λ k. k % 2 ^ (4 * c.args.band + 4 - c.args.level)) c.requires.first)

pub returns-clause-is : goal.returns-clause-is
returns-clause-is c = number c

pub returns-clause-most : goal.returns-clause-most
returns-clause-most c =
    let r = c.args.reach in
    let q = c.requires.level in
    omega (arith, number c, row_bound r.bands r.size r.level r.index r.some r.held r.low r.inside c.args.band (omega (arith, r.held, q)) c.requires.over c.args.level q.0 q.1.0 q.1.1 r.few)
