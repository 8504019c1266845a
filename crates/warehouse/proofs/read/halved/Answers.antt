use Rattle.std.proofs.Common.{◌≡◌, ◌%◌, ◌+ℤ◌, eqb, nat_abs, sym, arith}
use Rattle.std.proofs.lemmas.Bool.{ne_eqb, cond-false}
use Rattle.std.proofs.lemmas.Int.{ints}
use Rattle.warehouse.proofs.Halves.{left_half, right_half}
use Rattle.warehouse.proofs.read.halved.Goals as goal

pub returns-then-both-ne0 : goal.returns-then-both-ne0
returns-then-both-ne0 c =
    let h = c.if-both-ne0.true in
    let odd : nat_abs (c.args.sum +ℤ c.args.difference) % 2 ≡ 0 → ⊥ = λ e. omega (arith, ints) in
    sym (cond-false (eqb (nat_abs (c.args.sum +ℤ c.args.difference) % 2) 0) _ _ (ne_eqb _ _ odd))

pub returns-then-index-eq0 : goal.returns-then-index-eq0
returns-then-index-eq0 c =
    let h = c.if-both-ne0.false in
    let even : nat_abs (c.args.sum +ℤ c.args.difference) % 2 ≡ 0 = omega (arith, ints) in
    left_half c.args.cell c.args.index c.args.sum c.args.difference c.requires.0 c.requires.1 c.ranges.sum c.ranges.difference even c.if-index-eq0.true

pub returns-else-index-eq0 : goal.returns-else-index-eq0
returns-else-index-eq0 c =
    let h = c.if-both-ne0.false in
    let even : nat_abs (c.args.sum +ℤ c.args.difference) % 2 ≡ 0 = omega (arith, ints) in
    right_half c.args.cell c.args.index c.args.sum c.args.difference c.requires.0 c.requires.1 c.ranges.sum c.ranges.difference even c.if-index-eq0.false
