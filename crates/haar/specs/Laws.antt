-- The laws of the tiled Haar cells, each proved by the contract of a function that names it.
use Rattle.std.specs.Prelude.{◌≡◌, ℕ, suc, ◌+◌, ◌-◌, ◌*◌, ◌/◌, ◌^◌, ◌<◌, ◌≤◌, min, ◌⊎◌, List, ℤ, pos, ◌+ℤ◌, ◌-ℤ◌, ◌*ℤ◌, ◌≢◌}
use Rattle.haar.specs.Tree.{S, D}
use Rattle.haar.specs.declared.coefficient.Coefficient.{Coefficient}
use Rattle.haar.specs.declared.coefficient.Coefficient.TheVariants.{TileSum}
use Rattle.haar.specs.Tiles.{cell_number, cell_count, Inside}
use Rattle.haar.specs.Haar.{HaarCells}
use Rattle.haar.specs.Load.{Chunk, Splits, Loaded}
use Rattle.haar.specs.Growth.{Blank, Grown}
use Rattle.haar.specs.Cells.{haar_cells}
use Rattle.haar.specs.Run.{Run}
use Rattle.haar.specs.Count.{bands_in_use, Touches}

-- coefficients inside the size have cells of their own, below the count
abbrev pub Numbered : Type 0
Numbered =
    (T n : ℕ) → 1 ≤ T → n ≤ 4 * T
    → ((s s' : Coefficient) → Inside n s → Inside n s' → cell_number T s ≡ cell_number T s' → s ≡ s')
    × ((s : Coefficient) → Inside n s → cell_number T s < cell_count T)
    × ((c : ℕ) → c < cell_count T → ((s : Coefficient) × Inside n s × (cell_number T s ≡ c)) ⊎ ((s : Coefficient) → Inside n s → cell_number T s ≢ c))

-- all data have Haar cells, and equal data the same
abbrev pub Determined : Type 0
Determined =
    ((T n : ℕ) (f : ℕ → ℤ) → 1 ≤ T → n ≤ 4 * T → (x : ℕ → ℤ) × HaarCells T n f x)
    × ((T n : ℕ) (f g x y : ℕ → ℤ) → n ≤ 4 * T → ((i : ℕ) → f i ≡ g i) → HaarCells T n f x → HaarCells T n g y → (c : ℕ) → c < cell_count T → x c ≡ y c)

-- the cells that the function gives are the Haar cells
abbrev pub Computed : Type 0
Computed = (T n : ℕ) (f : ℕ → ℤ) → 1 ≤ T → n ≤ 4 * T → HaarCells T n f (haar_cells T n f)

-- Haar cells add
abbrev pub Linear : Type 0
Linear = (T n : ℕ) (f g x y : ℕ → ℤ) → HaarCells T n f x → HaarCells T n g y → HaarCells T n (λ i. f i +ℤ g i) (λ c. x c +ℤ y c)

-- S(j,k) and D(j,k) give both halves
abbrev pub Halved : Type 0
Halved =
    (f : ℕ → ℤ) (j k : ℕ) → 1 ≤ j
    → (S f (j - 1) (2 * k) +ℤ S f (j - 1) (2 * k + 1) ≡ S f j k)
    × (pos 2 *ℤ S f (j - 1) (2 * k) ≡ S f j k +ℤ D f j k)
    × (pos 2 *ℤ S f (j - 1) (2 * k + 1) ≡ S f j k -ℤ D f j k)

-- a chunk's data in each coefficient
abbrev pub ShiftSplit : Type 0
ShiftSplit = (n m p : ℕ) (g : ℕ → ℤ) → m ≤ n → Chunk m p g → Splits n m p g

-- growth keeps the Haar cells
abbrev pub Grows : Type 0
Grows = (T n : ℕ) (f x : ℕ → ℤ) → n < 4 * T → Blank n f → HaarCells T n f x → (y : ℕ → ℤ) → Grown T n (S f n 0) x y → HaarCells T (suc n) f y

-- the touched cells number W
abbrev pub Counted : Type 0
Counted = (T n m p : ℕ) → 1 ≤ T → n ≤ 4 * T → m ≤ n → p < 2 ^ (n - m) → (cells : List ℕ) × Touches T n m p cells

-- an empty store has the Haar cells of no running, and a load adds to the data
abbrev pub Loads : Type 0
Loads =
    ((T n : ℕ) (x : ℕ → ℤ) → 1 ≤ T → n ≤ 4 * T → ((c : ℕ) → c < cell_count T → x c ≡ pos 0) → HaarCells T n (λ i. pos 0) x)
    × ((T n m p : ℕ) (f g x y : ℕ → ℤ) → 1 ≤ T → n ≤ 4 * T → m ≤ n → Chunk m p g → HaarCells T n f x → Loaded T n m p g x y → HaarCells T n (λ i. f i +ℤ g i) y)

-- slot 0 of the highest tile in use is the total, and slot 0 over (j,k) is where its reading starts
abbrev pub Reads : Type 0
Reads =
    ((T n : ℕ) (f x : ℕ → ℤ) → HaarCells T n f x → x (cell_number T (TileSum (bands_in_use n - 1) 0)) ≡ S f n 0)
    × ((T n j k t : ℕ) (f x : ℕ → ℤ) → j ≤ n → k < 2 ^ (n - j) → t ≡ (j - 1) / 4 → HaarCells T n f x → x (cell_number T (TileSum t (k / 2 ^ (4 * t + 4 - j)))) ≡ S f (min (4 * t + 4) n) (k / 2 ^ (min (4 * t + 4) n - j)))

-- SHIFT: a chunk's own D stands in the large tree, its index moved
abbrev pub Shifts : Type 0
Shifts =
    (m p j k : ℕ) (g v : ℕ → ℤ) → suc j ≤ m → k < 2 ^ (m - suc j) → ((i : ℕ) → i < 2 ^ m → g (p * 2 ^ m + i) ≡ v i) → D g (suc j) (p * 2 ^ (m - suc j) + k) ≡ D v (suc j) k

-- after any run of loads and growths the cells are the Haar cells of the tally
abbrev pub RunSound : Type 0
RunSound = (T n : ℕ) (f x : ℕ → ℤ) → 1 ≤ T → Run T n f x → HaarCells T n f x
