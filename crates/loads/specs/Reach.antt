-- A chunk in a tree, and the cells that it touches.
--   at_reach r R    a relation R of bands, size, level and index, at those of the reach r
--   Sits            a coefficient by its band, its tile and its slot
--   Meets           a touched coefficient inside the size
--   Gap             no touched cell from one cell to before another
--   Takes           a touched cell, and the share of the data in it
use Rattle.std.specs.Prelude.{◌≡◌, ℕ, ◌+◌, ◌-◌, ◌*◌, ◌/◌, ◌^◌, ◌<◌, ◌≤◌, ℤ}
use Rattle.haar.specs.declared.coefficient.Coefficient.{Coefficient}
use Rattle.haar.specs.Tiles.{band, tile, slot, tiles_before, cell_number, Inside}
use Rattle.haar.specs.Haar.{value}
use Rattle.haar.specs.Load.{Touched}
use Rattle.loads.specs.declared.reach.Reach.{Reach}

abbrev pub at_reach : {X : Type 1} → Reach → (ℕ → ℕ → ℕ → ℕ → X) → X
at_reach r R = R r.bands r.size r.level r.index

-- slot `at` of tile (t,k) is the coefficient's
pub record Sits (s : Coefficient) (t k at : ℕ) : Type 0 where
  pub band : band s ≡ t
  pub tile : tile s ≡ k
  pub slot : slot s ≡ at

pub record Meets (n m p : ℕ) (s : Coefficient) : Type 0 where
  pub inside : Inside n s
  pub touched : Touched n m p s

abbrev pub Gap : ℕ → ℕ → ℕ → ℕ → ℕ → ℕ → Type 0
Gap T n m p a b = (s : Coefficient) → Meets n m p s → a ≤ cell_number T s → cell_number T s < b → ⊥

pub record Takes (T n m p : ℕ) (g : ℕ → ℤ) (cell : ℕ) (share : ℤ) : Type 0 where
  pub coefficient : Coefficient
  pub meets : Meets n m p coefficient
  pub numbered : cell_number T coefficient ≡ cell
  pub is : share ≡ value n g coefficient

-- the first index at level l that meets the chunk (m,p)
abbrev pub first_met : ℕ → ℕ → ℕ → ℕ
first_met m p l = p / 2 ^ (l - m) * 2 ^ (m - l)

-- slot 0 of the first tile of band t that meets the chunk
abbrev pub first_cell : ℕ → ℕ → ℕ → ℕ → ℕ
first_cell T m p t = 16 * (tiles_before (T - 1 - t) + first_met m p (4 * t + 4))

-- the first slot of level j in that tile, where it lies over the chunk
abbrev pub row_cell : ℕ → ℕ → ℕ → ℕ → ℕ → ℕ
row_cell T m p t j = first_cell T m p t + 2 ^ (4 * t + 4 - j)
