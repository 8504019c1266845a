-- The worked figures, one table: cell counts, cells written, the cells of a worked example, and a trend.
use Rattle.std.specs.Prelude.{◌≡◌, ℕ, ◌<◌, false, cond, List, [], ◌∷◌, ℤ, pos, negsuc, ◌==◌}
use Rattle.std.specs.Float.{fin}
use Rattle.haar.specs.Tree.{D}
use Rattle.haar.specs.Tiles.{cell_count}
use Rattle.haar.specs.Haar.{HaarCells}
use Rattle.haar.specs.Count.{W}
use Rattle.haar.specs.Trend.{trend_of}
use Rattle.haar.specs.declared.trend.Trend.TheVariants.{Falling}

-- 7 at minute 5, 3 at minute 16, -1 at minute 17
abbrev pub worked_minutes : ℕ → ℤ
worked_minutes i = cond (i == 5) (pos 7) (cond (i == 16) (pos 3) (cond (i == 17) (negsuc 0) (pos 0)))

-- a cell and its number
pub data Row : Type 0 where
  row : ℕ → ℤ → Row

-- their nonzero cells at size 5 in three bands
abbrev pub worked_cells : List Row
worked_cells =
    row 16 (pos 9) ∷ row 24 (pos 5) ∷ row 272 (pos 7) ∷ row 273 (pos 7) ∷ row 274 (negsuc 6) ∷ row 277 (pos 7)
    ∷ row 282 (negsuc 6) ∷ row 288 (pos 2) ∷ row 289 (pos 2) ∷ row 290 (pos 2) ∷ row 292 (pos 2) ∷ row 296 (pos 4) ∷ []

-- the number that a table has for a cell, and zero where it has none
abbrev pub lookup : List Row → ℕ → ℤ
lookup [] c = pos 0
lookup (row d v ∷ rest) c = cond (d == c) v (lookup rest c)

pub record Figures : Type 0 where
  pub counts : (cell_count 0 ≡ 0) × (cell_count 1 ≡ 16) × (cell_count 2 ≡ 272) × (cell_count 3 ≡ 4368) × (cell_count 4 ≡ 69904) × (cell_count 5 ≡ 1118480)
  pub written : (W 0 0 ≡ 1) × (W 0 4 ≡ 5) × (W 1 5 ≡ 7) × (W 4 6 ≡ 19) × (W 6 8 ≡ 70) × (W 12 20 ≡ 4378)
  pub cells : (x : ℕ → ℤ) → HaarCells 3 5 worked_minutes x → (c : ℕ) → c < cell_count 3 → x c ≡ lookup worked_cells c
  -- 5 / 2^4 is 0.3125
  pub trend : trend_of 5 (D worked_minutes 5 0) ≡ Falling (fin false 5 (negsuc 3))
