-- How many cells of a store are free.
--   free_cells m   the figure of free cells: room, or 0 where room is below zero
--   IsFree m n     n is the greatest number of cells that fit, or 0 where room is below zero; and it is at most the zero cells
use Rattle.std.specs.Prelude.{◌≡◌, ℕ, ◌+◌, ◌≤◌, ℤ, pos, negsuc, ◌≤ℤ◌, ◌<ℤ◌}
use Rattle.store.specs.Meaning.{Meaning, zeros}

-- a number, or 0 where it is below zero
abbrev pub or_zero : ℤ → ℕ
or_zero (pos n) = n
or_zero (negsuc n) = 0

abbrev pub free_cells : Meaning → ℕ
free_cells m = or_zero m.room

pub record IsFree (m : Meaning) (n : ℕ) : Type 0 where
  pub fits : pos 0 ≤ℤ m.room → pos n ≤ℤ m.room
  pub greatest : m.room <ℤ pos (n + 1)
  pub none : m.room <ℤ pos 0 → n ≡ 0
  pub zero : n ≤ zeros m
