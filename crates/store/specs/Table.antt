-- Entries sorted by cell, of which the first n are in use; specs/Contents says the same of a table.
--   entry_at es k      the entry at place k
--   Every P es n       P holds of each entry in use
--   Ascends            cells rise from entry to entry, so that no cell has two
--   Nonzero            no entry in use holds zero
--   CountedAmong T     the nonzero cells of a store of T bands are as many as the entries in use
--   LacksAmong         no entry in use has the cell
--   lookup             the number of a cell: that of its entry, or zero
--   HeldAmong, GapAmong    where a cell's entry is, or where a new one would stand
--   FindsAmong         what a lookup answers: the number of the cell's entry, or none
--   StoredAmong        a table with another number for one cell
--   Overfills, PutsAmong    whether a number needs a new entry past the most, and what writing it answers and does
use Rattle.std.specs.Prelude.{◌≡◌, ℕ, zero, suc, ◌+◌, ◌<◌, ◌≤◌, cond, List, ℤ, pos, Option, MatchOption, Ok, Err, Result, ◌==◌, ◌≢◌, slice_index_or}
use Rattle.haar.specs.Tiles.{cell_count}
use Rattle.store.specs.declared.entry.Entry.{Entry}
use Rattle.store.specs.declared.fault.CellFault.{CellFault}
use Rattle.store.specs.declared.fault.CellFault.TheVariants.{Full}
use Rattle.store.specs.Meaning.{weight, filled}

-- the entry at a place, and the empty one past the table's end
abbrev pub entry_at : List Entry → ℕ → Entry
entry_at es k = slice_index_or es k (record { cell = 0; value = pos 0 })

-- a fact of each entry in use
abbrev pub Every : (Entry → Type 0) → List Entry → ℕ → Type 0
Every P es n = (k : ℕ) → k < n → P (entry_at es k)

-- cells rise
abbrev pub Ascends : List Entry → ℕ → Type 0
Ascends es n = (j k : ℕ) → j < k → k < n → (entry_at es j).cell < (entry_at es k).cell

-- no number is zero
abbrev pub Nonzero : List Entry → ℕ → Type 0
Nonzero = Every (λ e. e.value ≢ pos 0)

-- no entry has the cell
abbrev pub LacksAmong : List Entry → ℕ → ℕ → Type 0
LacksAmong es n c = Every (λ e. e.cell ≢ c) es n

-- the number of a cell
abbrev pub lookup : List Entry → ℕ → ℕ → ℤ
lookup es zero c = pos 0
lookup es (suc n) c = cond ((entry_at es n).cell == c) (entry_at es n).value (lookup es n c)

-- each entry has a cell of the store
abbrev pub CountedAmong : ℕ → List Entry → ℕ → Type 0
CountedAmong T es n = filled (lookup es n) (cell_count T) ≡ n

-- the entry at a place has the cell
pub record HeldAmong (es : List Entry) (n c at : ℕ) : Type 0 where
  pub used : at < n
  pub is : (entry_at es at).cell ≡ c

-- no entry has the cell, and one at this place would keep the cells rising
pub record GapAmong (es : List Entry) (n c at : ℕ) : Type 0 where
  pub within : at ≤ n
  pub below : (k : ℕ) → k < at → (entry_at es k).cell < c
  pub above : (k : ℕ) → at ≤ k → k < n → c < (entry_at es k).cell

-- the number of the cell's entry, which is not zero, or none
abbrev pub FindsAmong : List Entry → ℕ → ℕ → Option ℤ → Type 0
FindsAmong es n c r = MatchOption r (LacksAmong es n c) (λ v. (lookup es n c ≡ v) × (v ≢ pos 0))

-- the first k entries of fs are the first n of es with v for cell c; zero has no entry
pub record StoredAmong (es : List Entry) (n c : ℕ) (v : ℤ) (fs : List Entry) (k : ℕ) : Type 0 where
  pub here : lookup fs k c ≡ v
  pub others : (d : ℕ) → (d ≢ c) → lookup fs k d ≡ lookup es n d
  pub used : k + weight (lookup es n c) ≡ n + weight v

-- v needs a new entry for cell c, and as many as allowed are in use
abbrev pub Overfills : ℕ → List Entry → ℕ → ℕ → ℤ → Type 0
Overfills most es n c v = (weight (lookup es n c) ≡ 0) × (weight v ≡ 1) × (most ≤ n)

-- v put in cell c of a table of at most so many entries, with the answer r
pub record PutsAmong (most : ℕ) (es : List Entry) (n c : ℕ) (v : ℤ) (r : Result Unit CellFault) (fs : List Entry) (k : ℕ) : Type 0 where
  pub full : Overfills most es n c v → r ≡ Err (Full c)
  pub done : (Overfills most es n c v → ⊥) → r ≡ Ok tt
  pub stored : r ≡ Ok tt → StoredAmong es n c v fs k
  pub kept : (f : CellFault) → r ≡ Err f → (fs ≡ es) × (k ≡ n)
