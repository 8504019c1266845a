-- What the calls of a table find in it and do to it: the words of specs/Table for the entries in use.
--   Empty         no entry is in use
--   in_use        the entries in use
--   cell_at k     the cell of the entry at place k
--   Counted T     the nonzero cells of a store of T bands are as many as the entries in use
--   Lacks         no entry has the cell
--   Held, Gap     where a cell's entry is, or where a new one would stand
--   Finds         what a lookup answers: the number of the cell's entry, or none
--   Unchanged     another table has the same entries
--   Stored        the table with another number for one cell
--   Puts          what writing a number answers and does, where so many entries are allowed
--   table_means   what a table means as a store of so many bands and such a capacity
use Rattle.std.specs.Prelude.{◌≡◌, ℕ, ◌-◌, true, List, ℤ, pos, Option, Result, take}
use Rattle.store.specs.declared.entry.Entry.{Entry}
use Rattle.store.specs.declared.fault.CellFault.{CellFault}
use Rattle.store.specs.declared.table.Table.{Table}
use Rattle.store.specs.Meaning.{Meaning}
use Rattle.store.specs.Table.{entry_at, CountedAmong, LacksAmong, HeldAmong, GapAmong, FindsAmong, StoredAmong, PutsAmong, lookup}

module _ {N : ℕ} (t : Table N) where
  abbrev pub Empty : Type 0
  Empty = t.used ≡ 0

  abbrev pub in_use : List Entry
  in_use = take t.used t.entries

  abbrev pub cell_at : ℕ → ℕ
  cell_at k = (entry_at t.entries k).cell

  abbrev pub Lacks : ℕ → Type 0
  Lacks = LacksAmong t.entries t.used

  abbrev pub Held : ℕ → ℕ → Type 0
  Held = HeldAmong t.entries t.used

  abbrev pub Gap : ℕ → ℕ → Type 0
  Gap = GapAmong t.entries t.used

  abbrev pub Finds : ℕ → Option ℤ → Type 0
  Finds = FindsAmong t.entries t.used

  abbrev pub Unchanged : Table N → Type 0
  Unchanged u = (u.entries ≡ t.entries) × (u.used ≡ t.used)

  abbrev pub Stored : ℕ → ℤ → Table N → Type 0
  Stored c v u = StoredAmong t.entries t.used c v u.entries u.used

  abbrev pub table_means : ℕ → ℕ → Meaning
  table_means bands capacity = record { bands = bands; cells = lookup t.entries t.used; room = pos (capacity - t.used); clean = true }

abbrev pub Counted : {N : ℕ} → ℕ → Table N → Type 0
Counted T t = CountedAmong T t.entries t.used

abbrev pub Puts : {N : ℕ} → ℕ → Table N → ℕ → ℤ → Result Unit CellFault → Table N → Type 0
Puts most t c v r u = PutsAmong most t.entries t.used c v r u.entries u.used
