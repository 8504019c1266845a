-- The laws of a store hold of every flat store.
use Rattle.std.specs.Prelude.{◌≡◌, ℕ, ◌+◌, ◌≤◌, List, ℤ}
use Rattle.std.proofs.Common.{arith}
use Rattle.std.proofs.lemmas.Int.{ints}
use Rattle.haar.specs.Tiles.{cell_count}
use Rattle.store.specs.Meaning.{Lawful, filled}
use Rattle.flat.specs.Slice.{number_at, slice_means}

pub slice_lawful : (zs : List ℤ) (T empty : ℕ) → T ≤ 5 → empty + filled (number_at zs) (cell_count T) ≡ cell_count T → Lawful (slice_means zs T empty)
slice_lawful zs T empty few counted = record { few = few; room = omega (arith, ints) }
