-- Zero and nonzero cells: those of an empty table, of a store that has bands, and what the law of a store's room gives.
use Rattle.std.proofs.Common.{◌≡◌, ℕ, zero, suc, ◌^◌, ◌≤◌, List, pos, ◌≤ℤ◌, refl, arith}
use Rattle.std.proofs.lemmas.Int.{ints}
use Rattle.haar.specs.Tiles.{tiles_before, cell_count}
use Rattle.haar.proofs.Ladder.{rising}
use Rattle.haar.proofs.Numbers.{before_rises}
use Rattle.haar.proofs.Places.{before_most}
use Rattle.store.specs.declared.entry.Entry.{Entry}
use Rattle.store.specs.Meaning.{Meaning, Lawful, filled}
use Rattle.store.specs.Table.{lookup}

-- without entries every cell is zero
pub filled_none : (es : List Entry) (c : ℕ) → filled (lookup es 0) c ≡ 0
unfolding filled
filled_none es zero = refl
filled_none es (suc c) = let rest = filled_none es c in omega arith

-- a store that has bands has cells
pub some_cells : (T : ℕ) → 1 ≤ T → 1 ≤ cell_count T
unfolding tiles_before
some_cells T some = let e = rising tiles_before before_rises 1 T some in omega arith

-- no store has room for more than two million cells
pub room_most : (m : Meaning) → Lawful m → m.room ≤ℤ pos (2 ^ 21)
room_most m l = omega (arith, ints, l.room, before_most m.bands l.few)
