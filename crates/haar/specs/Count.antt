-- How many cells a load writes.
use Rattle.std.specs.Prelude.{◌≡◌, ℕ, zero, suc, ◌+◌, ◌-◌, ◌*◌, ◌/◌, ◌^◌, min, max, cond, List, [], ◌∷◌, ◌++◌, map, length, nat_le}
use mathlib.Core.List.{Memᴰ}
use Rattle.std.specs.List.{range_with_len}
use Rattle.haar.specs.declared.coefficient.Coefficient.{Coefficient}
use Rattle.haar.specs.declared.coefficient.Coefficient.TheVariants.{TileSum, Difference}
use Rattle.haar.specs.Tiles.{cell_number, Inside}
use Rattle.haar.specs.Load.{Touched}

-- how many bands are in use at size n
abbrev pub bands_in_use : ℕ → ℕ
bands_in_use n = max 1 ((n + 3) / 4)

-- the tiles of the lowest b bands that a chunk of level m touches
abbrev pub tiles : ℕ → ℕ → ℕ
tiles m zero = 0
tiles m (suc t) = tiles m t + cond (nat_le (4 * t + 4) m) (2 ^ (m - (4 * t + 4))) 1

-- W(m,n)
abbrev pub W : ℕ → ℕ → ℕ
W m n = (2 ^ m - 1) + (n - m) + tiles m (bands_in_use n)

-- no element comes twice
abbrev pub Apart : {X : Type 0} → List X → Type 0
Apart [] = Unit {0}
Apart (x ∷ xs) = (Memᴰ x xs → ⊥) × Apart xs

-- the list of exactly the touched cells
pub record Touches (T n m p : ℕ) (cells : List ℕ) : Type 0 where
  pub apart : Apart cells
  pub touched : (c : ℕ) → Memᴰ c cells → (s : Coefficient) × Inside n s × Touched n m p s × (cell_number T s ≡ c)
  pub complete : (s : Coefficient) → Inside n s → Touched n m p s → Memᴰ (cell_number T s) cells
  pub many : length cells ≡ W m n

-- the indices of the intervals of level l that meet the chunk: those inside it, or the one over it
abbrev pub indices : ℕ → ℕ → ℕ → List ℕ
indices m p l = range_with_len (p / 2 ^ (l - m) * 2 ^ (m - l)) (2 ^ (m - l))

-- of a family of coefficients, one level of the tree to each number t, those touched at the numbers below b
abbrev pub family : ℕ → ℕ → (ℕ → ℕ → Coefficient) → (ℕ → ℕ) → ℕ → List Coefficient
family m p coefficient at zero = []
family m p coefficient at (suc t) = map (coefficient t) (indices m p (at t)) ++ family m p coefficient at t

-- the touched coefficients, listed: the tiles of each band in use, then the differences of each level
unfoldable pub touched_coefficients : ℕ → ℕ → ℕ → List Coefficient
touched_coefficients n m p = family m p TileSum (λ t. min (4 * t + 4) n) (bands_in_use n) ++ family m p (λ t. Difference (suc t)) suc n
