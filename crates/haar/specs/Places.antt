-- What the calls for cells and counts answer, for every input.
--   InSize           the interval (j,k) lies inside size n
--   DifferenceCell   the cell of D(j,k) in a store of T bands, if its tree has that difference; below 2^21
--   SumCell          slot 0 of the tile from which S(j,k) is read, if its tree has that sum; below 2^21
--   Written          W(m,n), and 0 where there is no such load
use Rattle.std.specs.Prelude.{◌≡◌, ℕ, ◌+◌, ◌-◌, ◌*◌, ◌/◌, ◌^◌, ◌<◌, ◌≤◌, ◌⊎◌, Some, None, Option, IfSome}
use Rattle.haar.specs.declared.coefficient.Coefficient.TheVariants.{TileSum, Difference}
use Rattle.haar.specs.Tiles.{cell_number}
use Rattle.haar.specs.Count.{W}

abbrev pub InSize : ℕ → ℕ → ℕ → Type 0
InSize n j k = (j ≤ n) × (k < 2 ^ (n - j))

-- the interval (j,k) lies in the tree of T bands, of which a store has at most five
pub record InTree (T j k : ℕ) : Type 0 where
  pub few : T ≤ 5
  pub low : j ≤ 4 * T
  pub inside : k < 2 ^ (4 * T - j)

pub record DifferenceCell (T j k : ℕ) (r : Option ℕ) : Type 0 where
  pub there : InTree T j k → 1 ≤ j → r ≡ Some (cell_number T (Difference j k))
  pub level : j ≡ 0 → r ≡ None
  pub none : (InTree T j k → ⊥) → r ≡ None
  pub narrow : IfSome r (λ cell. cell < 2 ^ 21)

-- the tile of band t over (j,k), where t is 0 for j = 0 and else (j-1) div 4
pub record SumCell (T j k : ℕ) (r : Option ℕ) : Type 0 where
  pub there : InTree T j k → r ≡ Some (cell_number T (TileSum ((j - 1) / 4) (k / 2 ^ (4 * ((j - 1) / 4) + 4 - j))))
  pub none : (InTree T j k → ⊥) → r ≡ None
  pub narrow : IfSome r (λ cell. cell < 2 ^ 21)

pub record Written (m n r : ℕ) : Type 0 where
  pub there : m ≤ 12 → m ≤ n → n ≤ 20 → r ≡ W m n
  pub none : ((12 < m) ⊎ ((n < m) ⊎ (20 < n))) → r ≡ 0
