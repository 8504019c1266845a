-- Founding a warehouse: what a survey finds, and what taking over, settling and closing leave.
--   Founded       a view that a survey accepts: nothing is in it yet
--   Unfit         why a survey refuses a store for a size
--   Taken         what taking over makes
use Rattle.std.specs.Prelude.{◌≡◌, ℕ, ◌*◌, ◌<◌, ◌≤◌, min, ◌⊎◌, pos, ◌≤ℤ◌, ◌<ℤ◌, Ok, Err, Result, ◌≢◌}
use Rattle.haar.specs.Tiles.{cell_count}
use Rattle.store.specs.Meaning.{Meaning}
use Rattle.warehouse.specs.declared.fault.Asked.TheVariants as asked
use Rattle.warehouse.specs.declared.fault.Fault.{Fault}
use Rattle.warehouse.specs.declared.fault.Fault.TheVariants.{Size, Dirty}
use Rattle.warehouse.specs.declared.fault.Refusal.{Refusal}
use Rattle.warehouse.specs.Faults.{fault_alone, Repeats}
use Rattle.warehouse.specs.View.{View, unmarked}

-- the cells below c are zero
abbrev pub Empty : Meaning → ℕ → Type 0
Empty m c = (d : ℕ) → d < c → m.cells d ≡ pos 0

-- the store can have the size
pub record Sized (m : Meaning) (n : ℕ) : Type 0 where
  pub some : 1 ≤ m.bands
  pub fits : n ≤ 4 * m.bands

pub record Founded (v : View) : Type 0 where
  pub sized : Sized v.store v.size
  pub unmarked : v.mark ≡ 0
  pub empty : Empty v.store (cell_count v.store.bands)
  pub room : pos 0 ≤ℤ v.store.room

-- c is the lowest cell that is not zero; or none is, room is below zero, and c is the cell count
abbrev pub Soiled : Meaning → ℕ → Type 0
Soiled m c =
    ((c < cell_count m.bands) × (m.cells c ≢ pos 0) × Empty m c)
    ⊎ ((c ≡ cell_count m.bands) × Empty m (cell_count m.bands) × (m.room <ℤ pos 0))

abbrev pub Unfit : Meaning → ℕ → Fault → Type 0
Unfit m n Size = Sized m n → ⊥
Unfit m n (Dirty c) = Sized m n × Soiled m c
Unfit m n _ = ⊥

abbrev pub Surveyed : Meaning → ℕ → Result Unit Fault → Type 0
Surveyed m n (Ok _) = Founded (unmarked m n)
Surveyed m n (Err f) = Unfit m n f

-- the answer of a survey, whose refusal repeats the size
pub record Surveys (m : Meaning) (n : ℕ) (r : Result Unit Refusal) : Type 0 where
  pub found : Surveyed m n (fault_alone r)
  pub asked : Repeats r (asked.Size n)

-- the size is cut to what the bands can have
abbrev pub cut : Meaning → ℕ → ℕ
cut m n = min n (4 * m.bands)
