-- Runs of a warehouse: its size n, the tally f and the cells x after them.
use Rattle.std.specs.Prelude.{◌≡◌, ℕ, suc, ◌-◌, ◌*◌, ◌^◌, ◌<◌, ◌≤◌, ℤ, pos, ◌+ℤ◌}
use Rattle.haar.specs.declared.coefficient.Coefficient.TheVariants.{TileSum}
use Rattle.haar.specs.Tiles.{cell_number, cell_count}
use Rattle.haar.specs.Load.{Chunk, Loaded}
use Rattle.haar.specs.Growth.{Grown}
use Rattle.haar.specs.Count.{bands_in_use}

pub data Run (T : ℕ) : ℕ → (ℕ → ℤ) → (ℕ → ℤ) → Type 0 where
  found : {n : ℕ} {x : ℕ → ℤ} → n ≤ 4 * T → ((c : ℕ) → c < cell_count T → x c ≡ pos 0) → Run T n (λ i. pos 0) x
  load : {n m p : ℕ} {f g x y : ℕ → ℤ} → m ≤ n → p < 2 ^ (n - m) → Chunk m p g → Loaded T n m p g x y → Run T n f x → Run T n (λ i. f i +ℤ g i) y
  -- the total is read from slot 0 of the highest tile in use
  grow : {n : ℕ} {f x y : ℕ → ℤ} → n < 4 * T → Grown T n (x (cell_number T (TileSum (bands_in_use n - 1) 0))) x y → Run T n f x → Run T (suc n) f y
