-- The bytes that a line gives before it first gives none.
--   Piece gives bs        the polls give the bytes bs in order, and then none
--   Stops gives           some poll gives none
--   StillGives over gives bs   what a feed still has: nothing once none came, else such a piece
--   first_none            a line that gives none has a piece
use Rattle.std.specs.Prelude.{◌≡◌, ℕ, ◌≤◌, Bool, true, false, List, [], length, Option, None, slice_get}

-- a captured line gives just its bytes: at the place behind them it gives none
abbrev pub Piece : (ℕ → Option ℕ) → List ℕ → Type 0
Piece gives bytes = (k : ℕ) → k ≤ length bytes → gives k ≡ slice_get bytes k

abbrev pub Stops : (ℕ → Option ℕ) → Type 0
Stops gives = (n : ℕ) × (gives n ≡ None)

abbrev pub StillGives : Bool → (ℕ → Option ℕ) → List ℕ → Type 0
StillGives true gives bytes = bytes ≡ []
StillGives false gives bytes = Piece gives bytes
