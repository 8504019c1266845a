-- A slice of numbers as the cells of a store.
--   number_at zs c   the number at place c, which is cell c
--   GreatestUpTo     T is the greatest number of bands, up to the most, whose cells fit n numbers
--   Greatest n T     the same up to 5, the most that a store has
--   slice_means      what a slice means as a store of so many bands with so many zero cells
--   MadeUpTo         a store as it is made of a slice, with so many bands at most
--   Made zs          the same with as many bands as the slice has room for
use Rattle.std.specs.Prelude.{◌≡◌, ℕ, ◌-◌, ◌<◌, ◌≤◌, min, true, List, length, ℤ, pos, slice_index_or}
use Rattle.haar.specs.Tiles.{cell_count}
use Rattle.store.specs.Meaning.{Meaning, filled}

-- the number at a place, and zero past the slice's end
abbrev pub number_at : List ℤ → ℕ → ℤ
number_at zs c = slice_index_or zs c (pos 0)

-- of 0 to so many bands, as many as fit
pub record GreatestUpTo (most n T : ℕ) : Type 0 where
  pub few : T ≤ most
  pub fits : cell_count T ≤ n
  pub greatest : (d : ℕ) → d ≤ most → cell_count d ≤ n → d ≤ T

abbrev pub Greatest : ℕ → ℕ → Type 0
Greatest = GreatestUpTo 5

-- each cell is a number of the slice, room is the count of zero cells, and it is always clean
abbrev pub slice_means : List ℤ → ℕ → ℕ → Meaning
slice_means zs bands zeros = record { bands = bands; cells = number_at zs; room = pos zeros; clean = true }

-- a store as it is made
pub record MadeUpTo (most : ℕ) (zs : List ℤ) (m : Meaning) : Type 0 where
  pub bands : GreatestUpTo (min 5 most) (length zs) m.bands
  pub cells : (k : ℕ) → k < cell_count m.bands → m.cells k ≡ number_at zs k
  pub room : m.room ≡ pos (cell_count m.bands - filled (number_at zs) (cell_count m.bands))
  pub clean : m.clean ≡ true

abbrev pub Made : List ℤ → Meaning → Type 0
Made = MadeUpTo 5
