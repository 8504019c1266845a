-- The minutes of a bottom tile, read together, each cell of the tile once.
--   tile_minute v i        minute i: inside the size what it is read as, past the size 0
--   FirstFault P a len f   f is the fault of one of the len readings P from a on, and none before it is a fault
--   AllRead P a xs         none is, and xs are what they come to
--   TileMinutes v k r      so the sixteen minutes of tile (0,k) are read: all of them, or the fault of the first that cannot be
use Rattle.std.specs.Prelude.{◌≡◌, ℕ, ◌+◌, ◌*◌, ◌^◌, ◌<◌, cond, List, length, get_or, ℤ, pos, Ok, Err, Result, nat_lt}
use Rattle.warehouse.specs.declared.fault.Fault.{Fault}
use Rattle.warehouse.specs.Ask.{sum_in}
use Rattle.warehouse.specs.View.{View}

abbrev pub tile_minute : View → ℕ → Result ℤ Fault
tile_minute v i = cond (nat_lt i (2 ^ v.size)) (sum_in v 0 i) (Ok (pos 0))

pub record FirstFault (P : ℕ → Result ℤ Fault) (a len : ℕ) (f : Fault) : Type 0 where
  pub at : ℕ
  pub inside : at < len
  pub faulty : P (a + at) ≡ Err f
  pub before : (i : ℕ) → i < at → (x : ℤ) × (P (a + i) ≡ Ok x)

abbrev pub AllRead : (ℕ → Result ℤ Fault) → ℕ → List ℤ → Type 0
AllRead P a xs = (i : ℕ) → i < length xs → P (a + i) ≡ Ok (get_or xs i (pos 0))

abbrev pub TileMinutes : View → ℕ → Result (List ℤ) Fault → Type 0
TileMinutes v k (Ok xs) = (length xs ≡ 16) × AllRead (tile_minute v) (16 * k) xs
TileMinutes v k (Err f) = FirstFault (tile_minute v) (16 * k) 16 f

-- the minutes from a on, on the way there: they stand in xs, or one is the first fault
abbrev pub Spread : (ℕ → Result ℤ Fault) → ℕ → ℕ → Result Unit Fault → List ℤ → Type 0
Spread P a len (Ok _) xs = AllRead P a xs
Spread P a len (Err f) xs = FirstFault P a len f
