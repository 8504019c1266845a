-- The Haar cells as a function of the cell number, which proofs compute with.
use Rattle.std.specs.Prelude.{ℕ, cond, List, [], ◌∷◌, ℤ, pos, ◌==◌}
use Rattle.haar.specs.declared.coefficient.Coefficient.{Coefficient}
use Rattle.haar.specs.Tiles.{cell_number}
use Rattle.haar.specs.Haar.{value}
use Rattle.haar.specs.Count.{touched_coefficients}

-- the value of the listed coefficient that cell c is of, and zero if there is none
abbrev pub pick : ℕ → ℕ → (ℕ → ℤ) → List Coefficient → ℕ → ℤ
pick T n f [] c = pos 0
pick T n f (s ∷ rest) c = cond (cell_number T s == c) (value n f s) (pick T n f rest c)

-- the coefficients inside the size are those that a chunk of the whole size touches
unfoldable pub haar_cells : ℕ → ℕ → (ℕ → ℤ) → ℕ → ℤ
haar_cells T n f c = pick T n f (touched_coefficients n n 0) c
