-- The coefficients of the Haar cells, and the numbers of their cells in a store of T bands.
use Rattle.std.specs.Prelude.{◌≡◌, ℕ, zero, suc, ◌+◌, ◌-◌, ◌*◌, ◌/◌, ◌%◌, ◌^◌, ◌<◌, ◌≤◌, ◌⊎◌}
use Rattle.haar.specs.declared.coefficient.Coefficient.{Coefficient}
use Rattle.haar.specs.declared.coefficient.Coefficient.TheVariants.{TileSum, Difference}

-- how far level j lies below the top level of its band: 4t + 4 - j
abbrev pub depth : ℕ → ℕ
depth j = 4 * ((j - 1) / 4) + 4 - j

abbrev pub band : Coefficient → ℕ
band (TileSum t k) = t
band (Difference j k) = (j - 1) / 4

-- the index of the coefficient's tile in its band
abbrev pub tile : Coefficient → ℕ
tile (TileSum t k) = k
tile (Difference j k) = k / 2 ^ depth j

abbrev pub slot : Coefficient → ℕ
slot (TileSum t k) = 0
slot (Difference j k) = 2 ^ depth j + k % 2 ^ depth j

-- how many tiles stand before those of the band that has d bands above it
unfoldable pub tiles_before : ℕ → ℕ
tiles_before d = (16 ^ d - 1) / 15

-- how many cells a store of T bands has
abbrev pub cell_count : ℕ → ℕ
cell_count T = 16 * tiles_before T

-- the cell of a coefficient in a store of T bands; without bands it is 0
abbrev pub cell_number : ℕ → Coefficient → ℕ
cell_number zero s = 0
cell_number (suc top) s = 16 * (tiles_before (top - band s) + tile s) + slot s

-- a band is in use at size n
abbrev pub InUse : ℕ → ℕ → Type 0
InUse n t = (t ≡ 0) ⊎ (4 * t < n)

-- a coefficient is inside size n
abbrev pub Inside : ℕ → Coefficient → Type 0
Inside n (TileSum t k) = InUse n t × (k * 16 ^ (t + 1) < 2 ^ n)
Inside n (Difference j k) = (1 ≤ j) × (j ≤ n) × (k < 2 ^ (n - j))
