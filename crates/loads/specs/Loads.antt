-- A load on a store's cells: the checks of its cells, and what it writes.
--   fresh x y c     how many cells below c are zero in x and nonzero in y
--   Small z         a number that a cell may come to hold
--   Clears, Large   every new number is small, or the lowest that is not
--   Stored          the cells, room and bands after the load
use Rattle.std.specs.Prelude.{◌≡◌, ℕ, zero, suc, ◌+◌, ◌-◌, ◌^◌, ◌<◌, ℤ, pos, ◌+ℤ◌, Ok, Err, Result}
use Rattle.haar.specs.declared.coefficient.Coefficient.{Coefficient}
use Rattle.haar.specs.Tiles.{cell_number, cell_count}
use Rattle.haar.specs.Haar.{value}
use Rattle.haar.specs.Load.{Loaded}
use Rattle.loads.specs.Reach.{Meets}
use Rattle.loads.specs.Transform.{Near}
use Rattle.store.specs.Meaning.{Meaning, weight, filled}

unfoldable pub fresh : (ℕ → ℤ) → (ℕ → ℤ) → ℕ → ℕ
fresh x y zero = 0
fresh x y (suc c) = fresh x y c + (weight (y c) - weight (x c))

abbrev pub Small : ℤ → Type 0
Small z = Near (2 ^ 56) z

-- the new numbers of the touched cells below `from` are small
abbrev pub Clear : ℕ → ℕ → ℕ → ℕ → (ℕ → ℤ) → (ℕ → ℤ) → ℕ → Type 0
Clear T n m p g x from = (s : Coefficient) → Meets n m p s → cell_number T s < from → Small (x (cell_number T s) +ℤ value n g s)

-- the lowest touched cell whose new number is not small
pub record Large (T n m p : ℕ) (g x : ℕ → ℤ) (cell : ℕ) : Type 0 where
  pub coefficient : Coefficient
  pub meets : Meets n m p coefficient
  pub numbered : cell_number T coefficient ≡ cell
  pub over : Small (x cell +ℤ value n g coefficient) → ⊥
  pub lowest : Clear T n m p g x cell

-- all are small, and k cells go from zero to nonzero
pub record Clears (T n m p : ℕ) (g x : ℕ → ℤ) (k : ℕ) : Type 0 where
  pub small : Clear T n m p g x (cell_count T)
  pub starts : (y : ℕ → ℤ) → Loaded T n m p g x y → fresh x y (cell_count T) ≡ k

abbrev pub Checked : ℕ → ℕ → ℕ → ℕ → (ℕ → ℤ) → (ℕ → ℤ) → Result ℕ ℕ → Type 0
Checked T n m p g x (Ok k) = Clears T n m p g x k
Checked T n m p g x (Err c) = Large T n m p g x c

pub record Stored (T n m p : ℕ) (g : ℕ → ℤ) (before after : Meaning) : Type 0 where
  pub bands : after.bands ≡ before.bands
  pub loaded : Loaded T n m p g before.cells after.cells
  pub room : after.room +ℤ pos (filled after.cells (cell_count T)) ≡ before.room +ℤ pos (filled before.cells (cell_count T))
