-- The refusals of a store: their numbers, and which cells are refused.
--   cell_fault_number   the number of a refusal
--   checked T c         refused is a cell at or past the cell count of T bands
use Rattle.std.specs.Prelude.{ℕ, cond, nat_lt, Ok, Err, Result}
use Rattle.haar.specs.Tiles.{cell_count}
use Rattle.store.specs.declared.fault.CellFault.{CellFault}
use Rattle.store.specs.declared.fault.CellFault.TheVariants.{Cell, Full}

abbrev pub cell_fault_number : CellFault → ℕ
cell_fault_number (Cell c) = 19
cell_fault_number (Full c) = 23

-- a cell below the cell count passes
abbrev pub checked : ℕ → ℕ → Result Unit CellFault
checked T c = cond (nat_lt c (cell_count T)) (Ok tt) (Err (Cell c))
