use Rattle.std.proofs.Common.{◌≡◌, Ok, Err, refl, arith, w64, to_z, of_z}
use Rattle.std.proofs.lemmas.Int.{ints}
use Rattle.feed.proofs.load.take_value.Goals as goal

pub returns-in-Ok : goal.returns-in-Ok
returns-in-Ok c =
    let e : to_z w64 (of_z w64 c.from.result) ≡ c.args.value = omega (arith, ints) in
    let h = rw e at c.in-Ok.ensures in
    (Ok c.in-Ok.load, h, refl, refl)

pub returns-in-Err : goal.returns-in-Err
returns-in-Err c =
    let e : to_z w64 (of_z w64 c.from.result) ≡ c.args.value = omega (arith, ints) in
    let h = rw e at c.in-Err.ensures in
    (Err c.in-Err.back, h, c.handed_back.ensures.load, c.handed_back.ensures.refusal)
