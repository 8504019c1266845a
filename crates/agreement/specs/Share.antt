-- What a load adds to each cell of its subtree and root path.
--   chunk_values     the values of a chunk of level m: the first 2^m of the buffer
--   share            what a touched coefficient gets
--   SharesAdded     the cells after a load, from the cells before it
use Rattle.std.specs.Prelude.{◌≡◌, ℕ, ◌+◌, ◌-◌, ◌*◌, ◌/◌, ◌%◌, ◌^◌, ◌<◌, cond, List, take, ℤ, ◌+ℤ◌, neg_ℤ, ◌==◌, ◌≢◌, nat_le}
use Rattle.haar.specs.Tree.{S, D}
use Rattle.haar.specs.declared.coefficient.Coefficient.{Coefficient}
use Rattle.haar.specs.declared.coefficient.Coefficient.TheVariants.{TileSum, Difference}
use Rattle.haar.specs.Tiles.{cell_number, cell_count, Inside}
use Rattle.haar.specs.Load.{Touched}
use Rattle.loads.specs.Share.{alone}

abbrev pub chunk_values : ℕ → List ℤ → List ℤ
chunk_values m buffer = take (2 ^ m) buffer

-- SHIFT: a difference or a tile inside the chunk gets the chunk's own.
-- SPLIT: one over the chunk gets the chunk's sum, with a minus where the chunk lies in the right half of a difference
abbrev pub share : ℕ → ℕ → List ℤ → Coefficient → ℤ
share m p values (TileSum t k) = cond (nat_le (4 * t + 4) m) (S (alone values) (4 * t + 4) (k % 2 ^ (m - (4 * t + 4)))) (S (alone values) m 0)
share m p values (Difference j k) =
    cond (nat_le j m) (D (alone values) j (k % 2 ^ (m - j)))
    (cond (p / 2 ^ (j - 1 - m) % 2 == 0) (S (alone values) m 0) (neg_ℤ (S (alone values) m 0)))

-- the cells y are the cells x after SHIFT and SPLIT of the chunk of level m and index p
pub record SharesAdded (T n m p : ℕ) (values : List ℤ) (x y : ℕ → ℤ) : Type 0 where
  pub touched : (s : Coefficient) → Inside n s → Touched n m p s → y (cell_number T s) ≡ x (cell_number T s) +ℤ share m p values s
  pub others : (c : ℕ) → c < cell_count T → ((s : Coefficient) → Inside n s → Touched n m p s → cell_number T s ≢ c) → y c ≡ x c
