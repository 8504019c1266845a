-- Accepted calls keep the Haar cells.
--   Keeps         an addition: those of the data before, and of the chunk's own minutes added
--   GrowthKeeps   a growth: those of the same data, where they are zero past the size
-- And a growth writes in rising cell number, as an addition does by its contract.
--   GrowthRises   the cells of its writes rise
use Rattle.std.specs.Prelude.{ℕ, ◌*◌, ◌<◌, ◌≤◌, List, ℤ, ◌+ℤ◌}
use Rattle.haar.specs.Growth.{Blank}
use Rattle.haar.specs.Haar.{HaarCells}
use Rattle.store.specs.Writing.{Rising}
use Rattle.warehouse.specs.View.{View}
use Rattle.loads.specs.Share.{minutes}
use Rattle.loads.specs.Addition.{Accepts}
use Rattle.loads.specs.Growing.{Grew, total_writes}

abbrev pub Keeps : Type 0
Keeps =
    (v v' : View) (m p w : ℕ) (zs : List ℤ) (f : ℕ → ℤ) → v.size ≤ 4 * v.store.bands
    → HaarCells v.store.bands v.size f v.store.cells → Accepts v m p zs w v'
    → HaarCells v'.store.bands v'.size (λ i. f i +ℤ minutes m p zs i) v'.store.cells

abbrev pub GrowthKeeps : Type 0
GrowthKeeps =
    (v v' : View) (n : ℕ) (f : ℕ → ℤ) → Blank v.size f → HaarCells v.store.bands v.size f v.store.cells → Grew v n v'
    → HaarCells v'.store.bands v'.size f v'.store.cells

abbrev pub GrowthRises : Type 0
GrowthRises = (T n : ℕ) (z : ℤ) → n < 4 * T → Rising (total_writes T n z)
