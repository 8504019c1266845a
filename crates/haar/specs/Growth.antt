-- Growth from size n to n + 1.
use Rattle.std.specs.Prelude.{◌≡◌, ℕ, suc, ◌/◌, ◌%◌, ◌^◌, ◌<◌, ◌≤◌, ℤ, pos, ◌≢◌}
use Rattle.haar.specs.declared.coefficient.Coefficient.TheVariants.{TileSum, Difference}
use Rattle.haar.specs.Tiles.{cell_number, cell_count}

-- the data are zero past 2^n
abbrev pub Blank : ℕ → (ℕ → ℤ) → Type 0
Blank n f = (i : ℕ) → 2 ^ n ≤ i → f i ≡ pos 0

-- n is a positive multiple of 4, so that growth puts a band in use
abbrev pub Fills : ℕ → Type 0
Fills n = (0 < n) × (n % 4 ≡ 0)

-- the cells y are the cells x with the total `all` written to D(n+1,0), and to the tile that comes in use
pub record Grown (T n : ℕ) (all : ℤ) (x y : ℕ → ℤ) : Type 0 where
  pub top : y (cell_number T (Difference (suc n) 0)) ≡ all
  pub tile : Fills n → y (cell_number T (TileSum (n / 4) 0)) ≡ all
  pub kept : (c : ℕ) → c < cell_count T → (c ≢ cell_number T (Difference (suc n) 0)) → (Fills n → c ≢ cell_number T (TileSum (n / 4) 0)) → y c ≡ x c
