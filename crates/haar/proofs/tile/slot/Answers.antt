use Rattle.std.proofs.Common.{◌≡◌, ℕ, ◌+◌, ◌-◌, ◌%◌, ◌^◌, ◌<◌, ap, arith, pow_pos}
use Rattle.haar.specs.Tiles.{depth}
use Rattle.haar.proofs.Places.{row_slots}
use Rattle.haar.proofs.tile.slot.Goals as goal
use Rattle.haar.proofs.tile.slot.Goals.{After-add}

-- how far the level lies below the top of its band
abbrev row : After-add → ℕ
row c = (4 - c.args.level % 4) % 4

sum : (c : After-add) → (c.add.result.number ≡ 2 ^ row c + c.args.index.number % 2 ^ row c) × (c.add.result.number < 16)
sum c =
    let s = row_slots c.args.index.number (row c) c.sub.result.number (omega arith) (omega (arith, pow_pos (row c))) in
    (omega (arith, s), omega (arith, s))

pub returns-clause-is : goal.returns-clause-is
returns-clause-is c = λ some.
    let e : row c ≡ depth c.args.level = omega arith in
    omega (arith, (sum c).0, ap (λ h. 2 ^ h + c.args.index.number % 2 ^ h) e)

pub returns-clause-without : goal.returns-clause-without
returns-clause-without c = λ none.
    let e : row c ≡ 0 = omega arith in
    omega (arith, (sum c).0, ap (λ h. 2 ^ h + c.args.index.number % 2 ^ h) e)

pub returns-clause-below : goal.returns-clause-below
returns-clause-below c = (sum c).1
