use Rattle.std.proofs.Common.{◌≡◌, pos, refl, ap, arith, rules, w64, SFits, ◌<◌, length, take}
use Rattle.std.proofs.lemmas.Int.{to_z-of_z}
use Rattle.std.proofs.lemmas.List.{get_or-take}
use Rattle.store.specs.Meaning.{filled, weight}
use Rattle.flat.specs.Slice.{number_at}
use Rattle.flat.proofs.Counting.{filled_more}
use Rattle.flat.proofs.zeros.count_zeros.Goals as goal

pub loop-number-init : goal.loop-number-init
unfolding filled
loop-number-init c = refl

pub loop-number-preserved : goal.loop-number-preserved
loop-number-preserved c =
    let k = c.loop-number.number-index in
    let many : length (take c.args.cells c.args.numbers.now) ≡ c.args.cells = search rules in
    let within : k < c.args.cells = omega arith in
    let same = get_or-take c.args.cells c.args.numbers.now k (pos 0) within in
    let more = filled_more (number_at c.args.numbers.now) k in
    let fits : SFits w64 (number_at (take c.args.cells c.args.numbers.now) k) = search rules in
    let read = ap weight (to_z-of_z w64 _ fits) in
    omega (arith, more, read, ap weight same)
