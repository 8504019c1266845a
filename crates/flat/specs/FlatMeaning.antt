-- What a flat store means.
--   flat_means   what a flat store is known by
--   FlatPuts     what a number written to a cell makes of it
use Rattle.std.specs.Prelude.{◌≡◌, ℕ, ◌≤◌, ℤ, slice_set}
use Rattle.haar.specs.Tiles.{cell_count}
use Rattle.store.specs.Meaning.{Meaning}
use Rattle.flat.specs.declared.slice.Flat.{Flat}
use Rattle.flat.specs.Slice.{number_at, slice_means}

-- bands, cells by the slice, room by the count of zero cells, and always clean
abbrev pub flat_means : Flat → Meaning
flat_means s = slice_means s.numbers.now s.bands s.zeros

-- the same loan comes back, with the number in the cell's place; what lies past the cells stays
pub record FlatPuts (s : Flat) (c : ℕ) (v : ℤ) (t : Flat) : Type 0 where
  pub loan : t.numbers.ghost_name ≡ s.numbers.ghost_name
  pub numbers : t.numbers.now ≡ slice_set s.numbers.now c v
  pub bands : t.bands ≡ s.bands
  pub past : (k : ℕ) → cell_count s.bands ≤ k → number_at t.numbers.now k ≡ number_at s.numbers.now k
