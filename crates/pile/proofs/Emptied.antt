-- A flat store made of numbers that were cleared.
use Rattle.std.proofs.Common.{◌≡◌, ℕ, ◌-◌, ◌<◌, ◌≤◌, min, List, length, ℤ, pos, subst, sym, ap, ◌∙◌, arith}
use Rattle.haar.specs.Tiles.{cell_count}
use Rattle.store.specs.Meaning.{Meaning, filled}
use Rattle.store.proofs.Counting.{filled_same}
use Rattle.flat.specs.Slice.{GreatestUpTo, MadeUpTo, number_at}
use Rattle.flat.proofs.Fewer.{fewer_fit}
use Rattle.pile.specs.Bottoms.{EmptyUpTo}

pub emptied : (T n : ℕ) (zs : List ℤ) (m : Meaning) → length zs ≡ n → ((k : ℕ) → k < cell_count (min T 5) → number_at zs k ≡ pos 0) → MadeUpTo T zs m → EmptyUpTo T n m
emptied T n zs m many zero made =
    let few = made.bands.few in
    let most : cell_count m.bands ≤ cell_count (min T 5) = fewer_fit m.bands (min T 5) _ (omega arith) (omega arith) in
    let N = cell_count m.bands in
    record {
      bands = subst (λ k. GreatestUpTo (min 5 T) k m.bands) many made.bands;
      cells = λ k l. made.cells k l ∙ zero k (omega arith);
      room = made.room ∙ ap (λ f. pos (N - f)) (sym (filled_same (number_at zs) m.cells N made.cells));
      clean = made.clean;
    }
