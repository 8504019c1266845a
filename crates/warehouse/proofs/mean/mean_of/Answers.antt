use Rattle.std.proofs.Common.{◌≡◌, ◌∙◌, sym, ap, ap₂, w64, SFits, pos, ◌+ℤ◌, ◌*ℤ◌, ◌<ℤ◌, to_z, of_z, arith, rules}
use Rattle.std.specs.Int.{int_div_euclid, int_rem_euclid}
use Rattle.std.proofs.lemmas.Int.{ints, to_z-of_z}
use Rattle.warehouse.proofs.Means.{goes}
use Rattle.warehouse.proofs.mean.mean_of.Goals as goal

pub returns-then-rest-odd : goal.returns-then-rest-odd
returns-then-rest-odd c =
    let s = to_z-of_z w64 c.args.sum c.ranges.sum in
    let m : to_z w64 (of_z w64 c.from-minutes.result) ≡ pos c.args.minutes = omega (arith, ints) in
    let f : SFits w64 c.div_euclid-below.result = search rules in
    let div = c.div_euclid-below.ensures ∙ ap₂ int_div_euclid s m in
    let rem = c.rem_euclid-rest.ensures.value ∙ ap₂ int_rem_euclid s m in
    let odd = c.rem_euclid-odd.ensures.value ∙ ap (λ b. int_rem_euclid b (pos 2)) (to_z-of_z w64 c.div_euclid-below.result f) in
    let up : pos c.args.minutes <ℤ (pos 2 *ℤ c.rem_euclid-rest.result +ℤ c.rem_euclid-odd.result) = grind (arith, ints, c.if-rest-odd.true) in
    let g : SFits w64 (c.div_euclid-below.result +ℤ pos 1) = search rules in
    let next : to_z w64 (of_z w64 (to_z w64 (of_z w64 c.div_euclid-below.result) +ℤ pos 1)) ≡ c.div_euclid-below.result +ℤ pos 1 = omega (arith, ints) in
    next ∙ sym (goes c.args.sum c.args.minutes c.div_euclid-below.result c.rem_euclid-rest.result c.rem_euclid-odd.result div rem odd up)
