-- Reading sums back, from any cells: what a question's cells come to, or the first fault on the way.
--   look m c                 what reading cell c of a store answers
--   sight c r                a cell's number as a part of a sum: Torn past the limit
--   halve c k s d            the half of index k, from the sum s above it and the difference d in cell c
--   lower T look j k s       S(j,k), from the sum s above it
--   descend T look c j k d   S(j,k), from the cell c that holds the sum d levels above it
--   read T n look j k        S(j,k), at size n in a store of T bands
--   cells_read n j           how many cells that takes
--   longest n a b            the level of the longest interval that starts at a and ends by b
--   pieces n a b             the minutes from a to b - 1 as such intervals
--   read_range T n look a b  their sum
--   range_cells n a b        how many cells that takes
use Rattle.std.specs.Prelude.{ℕ, zero, suc, ◌+◌, ◌-◌, ◌*◌, ◌/◌, ◌%◌, ◌^◌, min, Bool, cond, ◌&&◌, List, [], ◌∷◌, ℤ, pos, negsuc, ◌+ℤ◌, ◌-ℤ◌, Ok, Err, Result, ◌==◌, nat_le, nat_lt, unsigned_abs}
use Rattle.haar.specs.declared.coefficient.Coefficient.TheVariants.{TileSum, Difference}
use Rattle.haar.specs.Tiles.{cell_number, cell_count}
use Rattle.store.specs.Meaning.{Meaning}
use Rattle.store.specs.declared.fault.CellFault.TheVariants as cell
use Rattle.warehouse.specs.declared.fault.Fault.{Fault}
use Rattle.warehouse.specs.declared.fault.Fault.TheVariants.{Cell, Torn}

-- go on with what was read
abbrev pub ◌then◌ : {X Y : Type 0} → Result X Fault → (X → Result Y Fault) → Result Y Fault
◌then◌ (Ok x) go = go x
◌then◌ (Err f) go = Err f

-- one cell's number, refused at or past the cell count
abbrev pub look : Meaning → ℕ → Result ℤ Fault
look m c = cond (nat_lt c (cell_count m.bands)) (Ok (m.cells c)) (Err (Cell (cell.Cell c)))

-- the limit L of a cell's size
abbrev pub limit : ℕ
limit = 2 ^ 56

-- a cell's number, as a part of a sum
abbrev pub sight : ℕ → Result ℤ Fault → Result ℤ Fault
sight c (Ok v) = cond (nat_le (unsigned_abs v) limit) (Ok v) (Err (Torn c))
sight c (Err f) = Err f

-- an even number halved
abbrev pub half : ℤ → ℤ
half (pos n) = pos (n / 2)
half (negsuc n) = negsuc (n / 2)

-- an even index has half the sum with the difference, an odd one half the sum without it
abbrev pub halve : ℕ → ℕ → ℤ → ℤ → Result ℤ Fault
halve c k s d = cond (unsigned_abs (s +ℤ d) % 2 == 0) (Ok (cond (k % 2 == 0) (half (s +ℤ d)) (half (s -ℤ d)))) (Err (Torn c))

-- the cell of the difference between S(j,k) and its neighbour
abbrev pub beside : ℕ → ℕ → ℕ → ℕ
beside T j k = cell_number T (Difference (suc j) (k / 2))

-- one level down
unfoldable pub lower : ℕ → (ℕ → Result ℤ Fault) → ℕ → ℕ → ℤ → Result ℤ Fault
lower T look j k s = ◌then◌ (sight (beside T j k) (look (beside T j k))) (halve (beside T j k) k s)

-- d levels down
unfoldable pub descend : ℕ → (ℕ → Result ℤ Fault) → ℕ → ℕ → ℕ → ℕ → Result ℤ Fault
descend T look first j k zero = sight first (look first)
descend T look first j k (suc d) = ◌then◌ (descend T look first (suc j) (k / 2) d) (lower T look j k)

-- the band whose tiles S(j,k) is read from
abbrev pub reading_band : ℕ → ℕ
reading_band j = (j - 1) / 4

-- the level r where that starts
abbrev pub start : ℕ → ℕ → ℕ
start n j = min (4 * reading_band j + 4) n

-- slot 0 of the tile over S(j,k)
abbrev pub first_cell : ℕ → ℕ → ℕ → ℕ
first_cell T j k = cell_number T (TileSum (reading_band j) (k / 2 ^ (4 * reading_band j + 4 - j)))

unfoldable pub read : ℕ → ℕ → (ℕ → Result ℤ Fault) → ℕ → ℕ → Result ℤ Fault
read T n look j k = descend T look (first_cell T j k) j k (start n j - j)

abbrev pub cells_read : ℕ → ℕ → ℕ
cells_read n j = 1 + (start n j - j)

-- an interval of level j starts at a and ends by b
abbrev pub starts : ℕ → ℕ → ℕ → Bool
starts j a b = a % 2 ^ j == 0 && nat_le (a + 2 ^ j) b

-- the longest of level at most n
unfoldable pub longest : ℕ → ℕ → ℕ → ℕ
longest zero a b = 0
longest (suc l) a b = cond (starts (suc l) a b) (suc l) (longest l a b)

pub data Interval : Type 0 where
  interval : ℕ → ℕ → Interval  -- level, index

-- at most `more` intervals from a on
unfoldable pub split : ℕ → ℕ → ℕ → ℕ → List Interval
split zero n a b = []
split (suc more) n a b = cond (nat_le b a) [] (interval (longest n a b) (a / 2 ^ longest n a b) ∷ split more n (a + 2 ^ longest n a b) b)

-- all of them: there are no more than minutes
abbrev pub pieces : ℕ → ℕ → ℕ → List Interval
pieces n a b = split (b - a) n a b

-- the sum of some intervals, or the first fault
unfoldable pub read_all : ℕ → ℕ → (ℕ → Result ℤ Fault) → List Interval → Result ℤ Fault
read_all T n look [] = Ok (pos 0)
read_all T n look (interval j k ∷ rest) = ◌then◌ (read T n look j k) (λ s. ◌then◌ (read_all T n look rest) (λ r. Ok (s +ℤ r)))

-- the cells that they take
unfoldable pub all_cells : ℕ → List Interval → ℕ
all_cells n [] = 0
all_cells n (interval j k ∷ rest) = cells_read n j + all_cells n rest

abbrev pub read_range : ℕ → ℕ → (ℕ → Result ℤ Fault) → ℕ → ℕ → Result ℤ Fault
read_range T n look a b = read_all T n look (pieces n a b)

abbrev pub range_cells : ℕ → ℕ → ℕ → ℕ
range_cells n a b = all_cells n (pieces n a b)
