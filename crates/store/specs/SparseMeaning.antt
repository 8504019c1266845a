-- What a sparse store means, and what a new one holds.
--   sparse_means       what a sparse store is known by
--   sparse_puts        a number written to a cell of it
--   nearest low high   the number from low to high that is nearest to a number
--   Made               a new store: bands and room as asked for, brought into their limits; cells zero; clean
use Rattle.std.specs.Prelude.{◌≡◌, ℕ, min, max, true, ℤ, pos}
use Rattle.haar.specs.Tiles.{cell_count}
use Rattle.store.specs.declared.sparse.Sparse.{Sparse}
use Rattle.store.specs.Meaning.{Meaning}
use Rattle.store.specs.Contents.{Stored, table_means}

-- bands, cells by lookup in the table, room by capacity, and always clean
abbrev pub sparse_means : Sparse → Meaning
sparse_means s = table_means s.table s.bands s.capacity

-- the table has the number for the cell, and all else stays
abbrev pub sparse_puts : Sparse → ℕ → ℤ → Sparse → Type 0
sparse_puts s c v t = Stored s.table c v t.table × (t.capacity ≡ s.capacity) × (t.bands ≡ s.bands)

-- a number brought into limits
abbrev pub nearest : ℕ → ℕ → ℕ → ℕ
nearest low high n = max low (min n high)

-- a store as it is made
pub record Made (T most : ℕ) (m : Meaning) : Type 0 where
  pub bands : m.bands ≡ nearest 1 5 T
  pub cells : (k : ℕ) → m.cells k ≡ pos 0
  pub room : m.room ≡ pos (nearest 1 (min 1024 (cell_count m.bands)) most)
  pub clean : m.clean ≡ true
