use Rattle.std.proofs.Common.{◌≡◌, ◌+◌, ◌-◌, ◌*◌, ◌/◌, ◌^◌, ◌≤◌, ap, ap₂, ◌∙◌, arith, pow_pos}
use Rattle.haar.specs.declared.coefficient.Coefficient.TheVariants.{TileSum}
use Rattle.haar.proofs.Places.{number_at}
use Rattle.loads.specs.Reach.{first_cell}
use Rattle.loads.proofs.Meeting.{index_bound, first_fits, span_bound}
use Rattle.loads.proofs.walk.first_cell.Goals as goal
use Rattle.loads.proofs.walk.first_cell.Goals.{After-saturating_sub-2, After-start}

fits : (c : After-saturating_sub-2) → let r = c.args.reach in let a = c.saturating_sub.result in let b = c.saturating_sub-2.result in
    (c.shr-over.result.number * 2 ^ b + 2 ^ b ≤ 16 ^ (r.bands - 1 - c.args.band)) × (16 ^ (r.bands - 1 - c.args.band) ≤ 65536)
fits c =
    let r = c.args.reach in
    let f = first_fits r.bands r.size r.level r.index c.args.band _ _ c.requires r.few r.held r.low r.inside c.saturating_sub.ensures c.saturating_sub-2.ensures in
    (omega (arith, f.0, ap (λ x. x * 2 ^ c.saturating_sub-2.result) c.shr-over.ensures), f.1)

pub invariant_of-shr : goal.invariant_of-shr
invariant_of-shr c =
    let r = c.args.reach in
    record { below = omega (arith, index_bound r.bands r.size r.level r.index r.few r.held r.inside) }

pub shl-requires : goal.shl-requires
shl-requires c = (omega (arith, c.args.reach.short), omega (arith, fits c))

pub invariant_of-tile : goal.invariant_of-tile
invariant_of-tile c = record {
  few = c.args.reach.few;
  held = c.requires;
  inside = omega (arith, c.shl.ensures, fits ((goal.at.invariant_of-tile c).After-saturating_sub-2), pow_pos c.saturating_sub-2.result);
}

number : (c : After-start) → let r = c.args.reach in c.start.result.number ≡ first_cell r.bands r.level r.index c.args.band
number c =
    let r = c.args.reach in
    let k = c.shl.ensures ∙ ap (λ x. x * 2 ^ c.saturating_sub-2.result) c.shr-over.ensures ∙ ap₂ (λ x y. r.index / 2 ^ x * 2 ^ y) c.saturating_sub.ensures c.saturating_sub-2.ensures in
    omega (arith, c.start.ensures.is, number_at r.bands (TileSum c.args.band c.shl.result.number) r.some, k)

pub returns-clause-is : goal.returns-clause-is
returns-clause-is c = number c

pub returns-clause-most : goal.returns-clause-most
returns-clause-most c =
    let r = c.args.reach in
    omega (arith, number c, span_bound r.bands r.size r.level r.index r.some r.held r.low r.inside c.args.band c.requires r.few)
