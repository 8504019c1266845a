-- A load under way: what holds once its touched cells below `from` were taken.
--   Seen     they were checked, and k of them go from zero to nonzero
--   Partly   they were written, of a load that the store takes
use Rattle.std.specs.Prelude.{◌≡◌, ℕ, ◌<◌, ◌≤◌, ℤ, pos, ◌+ℤ◌, ◌≤ℤ◌}
use Rattle.haar.specs.declared.coefficient.Coefficient.{Coefficient}
use Rattle.haar.specs.Tiles.{cell_number, cell_count}
use Rattle.haar.specs.Haar.{value}
use Rattle.haar.specs.Load.{Loaded}
use Rattle.store.specs.Meaning.{Meaning, filled}
use Rattle.loads.specs.Reach.{Meets}
use Rattle.loads.specs.Loads.{fresh, Clear}

pub record Seen (T n m p : ℕ) (g x : ℕ → ℤ) (from k : ℕ) : Type 0 where
  pub below : from ≤ cell_count T
  pub few : k ≤ from
  pub clear : Clear T n m p g x from
  pub starts : (y : ℕ → ℤ) → Loaded T n m p g x y → fresh x y from ≡ k

pub record Partly (T n m p : ℕ) (g : ℕ → ℤ) (before now : Meaning) (from : ℕ) : Type 0 where
  pub bands : now.bands ≡ T
  pub below : from ≤ cell_count T
  pub small : Clear T n m p g before.cells (cell_count T)
  -- the cells once all are written, and the room that they need
  pub after : ℕ → ℤ
  pub load : Loaded T n m p g before.cells after
  pub fits : pos (fresh before.cells after (cell_count T)) ≤ℤ before.room
  pub added : (s : Coefficient) → Meets n m p s → cell_number T s < from → now.cells (cell_number T s) ≡ before.cells (cell_number T s) +ℤ value n g s
  pub kept : (c : ℕ) → c < cell_count T → ((s : Coefficient) → Meets n m p s → cell_number T s ≡ c → c < from → ⊥) → now.cells c ≡ before.cells c
  pub room : now.room +ℤ pos (filled now.cells (cell_count T)) ≡ before.room +ℤ pos (filled before.cells (cell_count T))
  pub left : before.room ≤ℤ (now.room +ℤ pos (fresh before.cells after from))
