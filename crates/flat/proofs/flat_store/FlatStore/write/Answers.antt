use Rattle.std.proofs.Common.{◌+◌, ◌<◌, sym, ap, ◌∙◌, arith, w64, SFits, to_z, of_z, rules}
use Rattle.std.proofs.lemmas.List.{length-set}
use Rattle.std.proofs.lemmas.Int.{to_z-of_z}
use Rattle.haar.specs.Tiles.{cell_count}
use Rattle.store.specs.Meaning.{weight}
use Rattle.flat.specs.Slice.{number_at}
use Rattle.flat.proofs.Counting.{filled_less, zeros_most}
use Rattle.flat.proofs.Placing.{recounted}
use Rattle.flat.proofs.flat_store.FlatStore.write.Goals as goal

pub zeros_after-zeros-requires : goal.zeros_after-zeros-requires
zeros_after-zeros-requires c =
    let s = c.args.self.now in
    let i : c.args.cell < cell_count s.bands = search rules in
    let f : SFits w64 (number_at s.numbers.now c.args.cell) = search rules in
    record {
      few = omega (arith, zeros_most _ _ _ s.few s.counted);
      counted = λ z. omega (arith, s.counted, filled_less (number_at s.numbers.now) _ _ i (ap weight (sym (to_z-of_z w64 _ f)) ∙ z));
    }

pub invariant_of-self : goal.invariant_of-self
invariant_of-self c =
    let s = c.args.self.now in
    let i : c.args.cell < cell_count s.bands = search rules in
    let f : SFits w64 (number_at s.numbers.now c.args.cell) = search rules in
    let l = length-set s.numbers.now c.args.cell (to_z w64 (of_z w64 c.args.value)) in
    let e = c.zeros_after-zeros.ensures ∙ ap (λ z. s.zeros + weight z) (to_z-of_z w64 _ f) in
    let n = recounted s.numbers.now c.args.cell (cell_count s.bands) _ i s.long s.zeros c.zeros_after-zeros.result e s.counted in
    record { few = s.few; sized = s.sized; long = omega (arith, s.long); counted = n }
