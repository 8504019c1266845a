-- What a store is known by, and what each call of it does.
--   Meaning          bands, cells, room and cleanness: all that a store is known by
--   Lawful           what holds of every store
--   weight z         1 for a number that is not zero, and 0 for zero
--   filled x c       how many of the cells below c are not zero
--   zeros m          how many of a store's cells are zero
--   Bars m c v       writing v to cell c needs room, and there is none
use Rattle.std.specs.Prelude.{◌≡◌, ℕ, zero, suc, ◌+◌, ◌-◌, ◌<◌, ◌≤◌, Bool, true, false, ℤ, pos, negsuc, ◌+ℤ◌, ◌≤ℤ◌, ◌<ℤ◌, Ok, Err, Result, ◌≢◌}
use Rattle.store.specs.declared.fault.CellFault.{CellFault}
use Rattle.store.specs.declared.fault.CellFault.TheVariants.{Cell, Full}
use Rattle.haar.specs.Tiles.{cell_count}

pub record Meaning : Type 0 where
  pub bands : ℕ
  pub cells : ℕ → ℤ
  pub room : ℤ
  pub clean : Bool

abbrev pub weight : ℤ → ℕ
weight (pos zero) = 0
weight (pos (suc n)) = 1
weight (negsuc n) = 1

unfoldable pub filled : (ℕ → ℤ) → ℕ → ℕ
filled x zero = 0
filled x (suc c) = filled x c + weight (x c)

abbrev pub zeros : Meaning → ℕ
zeros m = cell_count m.bands - filled m.cells (cell_count m.bands)

-- no store has more than five bands, or room for more cells than are zero
pub record Lawful (m : Meaning) : Type 0 where
  pub few : m.bands ≤ 5
  pub room : m.room ≤ℤ pos (zeros m)

abbrev pub Bars : Meaning → ℕ → ℤ → Type 0
Bars m c v = (weight (m.cells c) ≡ 0) × (weight v ≡ 1) × (m.room <ℤ pos 1)

pub record Reads (m : Meaning) (c : ℕ) (r : Result ℤ CellFault) : Type 0 where
  pub inside : c < cell_count m.bands → r ≡ Ok (m.cells c)
  pub outside : cell_count m.bands ≤ c → r ≡ Err (Cell c)

-- n is m, but for cleanness
pub record Same (m n : Meaning) : Type 0 where
  pub bands : n.bands ≡ m.bands
  pub cells : (k : ℕ) → k < cell_count m.bands → n.cells k ≡ m.cells k
  pub room : n.room ≡ m.room

-- n is m with v in cell c: room falls by 1 if a zero cell became nonzero, and rises by 1 the other way
pub record Put (m : Meaning) (c : ℕ) (v : ℤ) (n : Meaning) : Type 0 where
  pub bands : n.bands ≡ m.bands
  pub here : n.cells c ≡ v
  pub others : (k : ℕ) → k < cell_count m.bands → (k ≢ c) → n.cells k ≡ m.cells k
  pub room : n.room +ℤ pos (weight v) ≡ m.room +ℤ pos (weight (m.cells c))

pub record Writes (m : Meaning) (c : ℕ) (v : ℤ) (r : Result Unit CellFault) (n : Meaning) : Type 0 where
  pub outside : cell_count m.bands ≤ c → r ≡ Err (Cell c)
  pub full : c < cell_count m.bands → Bars m c v → r ≡ Err (Full c)
  pub done : c < cell_count m.bands → (Bars m c v → ⊥) → r ≡ Ok tt
  pub put : r ≡ Ok tt → Put m c v n
  pub kept : (f : CellFault) → r ≡ Err f → Same m n × (n.clean ≡ m.clean)

pub record Fits (m : Meaning) (more : ℕ) (r : Bool) : Type 0 where
  pub yes : r ≡ true → pos more ≤ℤ m.room
  pub none : r ≡ false → m.room <ℤ pos more

pub record Settles (m n : Meaning) : Type 0 where
  pub same : Same m n
  pub clean : pos 0 ≤ℤ m.room → n.clean ≡ true
