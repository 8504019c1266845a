-- A chunk of level m and index p: its 2^m minutes, and the coefficients that it touches.
use Rattle.std.specs.Prelude.{◌≡◌, ℕ, ◌+◌, ◌-◌, ◌*◌, ◌/◌, ◌^◌, ◌<◌, ◌≤◌, min, ℤ, pos, ◌+ℤ◌, neg_ℤ, ◌≢◌}
use Rattle.haar.specs.declared.coefficient.Coefficient.{Coefficient}
use Rattle.haar.specs.declared.coefficient.Coefficient.TheVariants.{TileSum, Difference}
use Rattle.haar.specs.Tiles.{Inside, cell_number, cell_count}
use Rattle.haar.specs.Tree.{S}
use Rattle.haar.specs.Haar.{value}

-- the data are zero outside the chunk
abbrev pub Chunk : ℕ → ℕ → (ℕ → ℤ) → Type 0
Chunk m p g = (i : ℕ) → (i / 2 ^ m ≢ p) → g i ≡ pos 0

-- the level and index of the interval that a coefficient sums at size n
abbrev pub level : ℕ → Coefficient → ℕ
level n (TileSum t k) = min (4 * t + 4) n
level n (Difference j k) = j

abbrev pub index : Coefficient → ℕ
index (TileSum t k) = k
index (Difference j k) = k

-- the coefficient's interval and the chunk overlap: at the larger level they have one index
abbrev pub Touched : ℕ → ℕ → ℕ → Coefficient → Type 0
Touched n m p s = index s / 2 ^ (m - level n s) ≡ p / 2 ^ (level n s - m)

-- SPLIT: what a chunk's data come to in each coefficient
pub record Splits (n m p : ℕ) (g : ℕ → ℤ) : Type 0 where
  pub untouched : (s : Coefficient) → Inside n s → (Touched n m p s → ⊥) → value n g s ≡ pos 0
  -- the chunk in the left half of D(j,k), or in the right half
  pub left : (j k : ℕ) → m < j → p / 2 ^ (j - 1 - m) ≡ 2 * k → value n g (Difference j k) ≡ S g m p
  pub right : (j k : ℕ) → m < j → p / 2 ^ (j - 1 - m) ≡ 2 * k + 1 → value n g (Difference j k) ≡ neg_ℤ (S g m p)
  -- a tile over the chunk
  pub over : (t k : ℕ) → Inside n (TileSum t k) → m ≤ 4 * t + 4 → Touched n m p (TileSum t k) → value n g (TileSum t k) ≡ S g m p

-- the cells y are the cells x with each touched coefficient's share of g added
pub record Loaded (T n m p : ℕ) (g x y : ℕ → ℤ) : Type 0 where
  pub added : (s : Coefficient) → Inside n s → Touched n m p s → y (cell_number T s) ≡ x (cell_number T s) +ℤ value n g s
  pub kept : (c : ℕ) → c < cell_count T → ((s : Coefficient) → Inside n s → Touched n m p s → cell_number T s ≢ c) → y c ≡ x c
