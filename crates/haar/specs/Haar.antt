-- The Haar cells of the data f at size n in a store of T bands, as a relation.
use Rattle.std.specs.Prelude.{◌≡◌, ℕ, ◌+◌, ◌-◌, ◌*◌, ◌^◌, ◌<◌, min, ℤ, pos, ◌≢◌}
use Rattle.haar.specs.Tree.{plain_sum, D}
use Rattle.haar.specs.declared.coefficient.Coefficient.{Coefficient}
use Rattle.haar.specs.declared.coefficient.Coefficient.TheVariants.{TileSum, Difference}
use Rattle.haar.specs.Tiles.{cell_number, cell_count, Inside}

-- a tile's sum is that of its minutes below 2^n
abbrev pub value : ℕ → (ℕ → ℤ) → Coefficient → ℤ
value n f (TileSum t k) = plain_sum f (k * 16 ^ (t + 1)) (min (16 ^ (t + 1)) (2 ^ n - k * 16 ^ (t + 1)))
value n f (Difference j k) = D f j k

pub record HaarCells (T n : ℕ) (f cells : ℕ → ℤ) : Type 0 where
  -- each coefficient inside the size has its value in its cell
  pub held : (s : Coefficient) → Inside n s → cells (cell_number T s) ≡ value n f s
  -- every other cell is zero
  pub empty : (c : ℕ) → c < cell_count T → ((s : Coefficient) → Inside n s → cell_number T s ≢ c) → cells c ≡ pos 0
