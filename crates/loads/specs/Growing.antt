-- Growing a warehouse by one level.
--   total_cell, top_cell, tile_cell   where the total is read, and where it is written
--   fills n         growth from size n puts a band in use
--   newly           how many of the cells to write go from zero to nonzero
--   total_writes    the writes of the total z to the cells of a growth, the lower one first
--   growth_writes   the writes of a growth
--   Stays           why a growth is refused
--   Growth          what the call answers, and the view after it
--   GrownTo         what the call makes of a warehouse in full
use Rattle.std.specs.Prelude.{◌≡◌, ℕ, suc, ◌+◌, ◌-◌, ◌*◌, ◌/◌, ◌%◌, ◌<◌, ◌≤◌, Bool, cond, ◌&&◌, List, [], ◌∷◌, ℤ, pos, ◌+ℤ◌, ◌≤ℤ◌, ◌<ℤ◌, Ok, Err, Result, ◌==◌, nat_lt}
use Rattle.haar.specs.declared.coefficient.Coefficient.TheVariants.{TileSum, Difference}
use Rattle.haar.specs.Tiles.{cell_number, cell_count}
use Rattle.haar.specs.Count.{bands_in_use}
use Rattle.haar.specs.Growth.{Grown}
use Rattle.store.specs.declared.entry.Entry.{Entry}
use Rattle.store.specs.Meaning.{Meaning, weight, filled}
use Rattle.store.specs.Writing.{Putting, entry, Written}
use Rattle.warehouse.specs.declared.fault.Asked.TheVariants as asked
use Rattle.warehouse.specs.declared.fault.Fault.{Fault}
use Rattle.warehouse.specs.declared.fault.Fault.TheVariants.{Cell, Level, Value, Buffer, Range, Interval, Size, Domain, Large, Full, Top, Short, Over, Torn, Dirty, Fine}
use Rattle.warehouse.specs.declared.fault.Refusal.{Refusal}
use Rattle.warehouse.specs.Faults.{fault_alone, Repeats}
use Rattle.warehouse.specs.declared.record.Warehouse.{Warehouse}
use Rattle.warehouse.specs.View.{View, known}
use Rattle.loads.specs.Loads.{Small}

-- slot 0 of the highest tile in use
abbrev pub total_cell : ℕ → ℕ → ℕ
total_cell T n = cell_number T (TileSum (bands_in_use n - 1) 0)

-- the difference that comes on top
abbrev pub top_cell : ℕ → ℕ → ℕ
top_cell T n = cell_number T (Difference (suc n) 0)

-- slot 0 of the tile that comes in use
abbrev pub tile_cell : ℕ → ℕ → ℕ
tile_cell T n = cell_number T (TileSum (n / 4) 0)

abbrev pub fills : ℕ → Bool
fills n = nat_lt 0 n && n % 4 == 0

-- the lower of the cells to write
abbrev pub lowest_written : ℕ → ℕ → ℕ
lowest_written T n = cond (fills n) (tile_cell T n) (top_cell T n)

abbrev pub newly : ℕ → ℕ → ℤ → (ℕ → ℤ) → ℕ
newly T n total x = (weight total - weight (x (top_cell T n))) + cond (fills n) (weight total - weight (x (tile_cell T n))) 0

abbrev pub total_writes : ℕ → ℕ → ℤ → List Entry
total_writes T n z =
    cond (fills n) (entry (tile_cell T n) z ∷ entry (top_cell T n) z ∷ []) (entry (top_cell T n) z ∷ [])

abbrev pub total_of : View → ℤ
total_of v = v.store.cells (total_cell v.store.bands v.size)

abbrev pub growth_writes : View → List Entry
growth_writes v = total_writes v.store.bands v.size (total_of v)

abbrev pub Stays : View → Fault → Type 0
Stays v Top = 4 * v.store.bands ≤ v.size
Stays v (Large c) = (v.size < 4 * v.store.bands) × (Small (total_of v) → ⊥) × (c ≡ lowest_written v.store.bands v.size)
Stays v Full = (v.size < 4 * v.store.bands) × Small (total_of v) × (v.store.room <ℤ pos (newly v.store.bands v.size (total_of v) v.store.cells))
Stays v (Cell f) = ⊥
Stays v Level = ⊥
Stays v (Value i) = ⊥
Stays v Buffer = ⊥
Stays v Range = ⊥
Stays v Interval = ⊥
Stays v Size = ⊥
Stays v Domain = ⊥
Stays v Short = ⊥
Stays v Over = ⊥
Stays v (Torn c) = ⊥
Stays v (Dirty c) = ⊥
Stays v (Fine c) = ⊥

-- the total is written; room and nonzero cells together stay
pub record Topped (n : ℕ) (total : ℤ) (m m' : Meaning) : Type 0 where
  pub bands : m'.bands ≡ m.bands
  pub cells : Grown m.bands n total m.cells m'.cells
  pub room : m'.room +ℤ pos (filled m'.cells (cell_count m.bands)) ≡ m.room +ℤ pos (filled m.cells (cell_count m.bands))

pub record Grew (v : View) (answer : ℕ) (v' : View) : Type 0 where
  pub below : v.size < 4 * v.store.bands
  pub small : Small (total_of v)
  pub fits : pos (newly v.store.bands v.size (total_of v) v.store.cells) ≤ℤ v.store.room
  pub answered : answer ≡ suc v.size
  pub size : v'.size ≡ suc v.size
  pub mark : v'.mark ≡ v.mark
  pub topped : Topped v.size (total_of v) v.store v'.store

abbrev pub Grows : View → Result ℕ Fault → View → Type 0
Grows v (Ok n) v' = Grew v n v'
Grows v (Err f) v' = Stays v f × (v' ≡ v)

-- a refusal repeats the size that is kept
pub record Growth (v : View) (r : Result ℕ Refusal) (v' : View) : Type 0 where
  pub grows : Grows v (fault_alone r) v'
  pub asked : Repeats r (asked.Size v.size)

-- an accepted growth wrote the total; a refused one left the warehouse as it was
abbrev pub GrownTo : {S E : Type 0} → (S → Meaning) → Putting S → Warehouse S → Result ℕ E → Warehouse S → Type 0
GrownTo means puts w (Ok n) w' =
    (w'.asked ≡ n) × (w'.mark ≡ (known means w).mark) × Written puts (growth_writes (known means w)) w.store w'.store
GrownTo means puts w (Err _) w' = w' ≡ w
