use Rattle.std.proofs.Common.{◌≡◌, refl, arith, w32, to_z, of_z, rules}
use Rattle.std.proofs.lemmas.Int.{ints}
use Rattle.feed.proofs.run.obey.Goals as goal
use Rattle.feed.proofs.run.obey.Goals.{in-Add-default, in-GiveUp-Some, in-Grow-default, in-Point-default, in-Sum-default, in-Mean-default}

pub returns-in-Value-Some-clause-obeys : goal.returns-in-Value-Some-clause-obeys
returns-in-Value-Some-clause-obeys g c =
    let e : to_z w32 (of_z w32 c.in-Value-Some.value) ≡ c.in-Value-Some.value = omega (arith, ints) in
    let h = rw e at c.take_value.ensures in
    rw c.in-Value-Some.is-0 (rw c.in-Value-Some.is-1 (h, refl))

pub returns-clause-obeys : goal.returns-clause-obeys
returns-clause-obeys g c = elim c.match-command.branch [ in-Add-default w ↦ search rules | in-GiveUp-Some w ↦ search rules | in-Grow-default w ↦ search rules | in-Point-default w ↦ search rules | in-Sum-default w ↦ search rules | in-Mean-default w ↦ search rules ]

pub returns-clause-whole : goal.returns-clause-whole
returns-clause-whole g c = elim c.match-command.branch [ in-Add-default w ↦ search rules | in-GiveUp-Some w ↦ search rules | in-Grow-default w ↦ search rules | in-Point-default w ↦ search rules | in-Sum-default w ↦ search rules | in-Mean-default w ↦ search rules ]
