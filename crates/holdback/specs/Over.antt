-- What the hold-back layer means: numbers held over the cells of a store below.
--   choose h b         the held number h, or b where h is zero, which says that none is held
--   over es n x        the cells x with the numbers of the first n entries held over them
--   fresh N es n x     how many of the first n entries are for a cell below N that is zero in x
--   held_over es n m   what the first n entries over a store that means m mean as a store
--   Alike m n          n is m in all that a store is known by
--   zero_at m c        whether the store m has the cell c, and it is zero
use Rattle.std.specs.Prelude.{◌≡◌, ℕ, zero, suc, ◌+◌, ◌-◌, Bool, false, cond, List, ℤ, pos, negsuc, ◌-ℤ◌, ◌==◌, ◌&&◌, nat_lt}
use Rattle.haar.specs.Tiles.{cell_count}
use Rattle.store.specs.declared.entry.Entry.{Entry}
use Rattle.store.specs.Meaning.{Meaning, Same, weight}
use Rattle.store.specs.Table.{entry_at, lookup}

-- no held number is zero
abbrev pub choose : ℤ → ℤ → ℤ
choose (pos zero) b = b
choose (pos (suc k)) b = pos (suc k)
choose (negsuc k) b = negsuc k

-- a cell is the held number, else the number below
abbrev pub over : List Entry → ℕ → (ℕ → ℤ) → ℕ → ℤ
over es n x c = choose (lookup es n c) (x c)

-- a held number whose cell is refused below, at N or past it, does not count
unfoldable pub fresh : ℕ → List Entry → ℕ → (ℕ → ℤ) → ℕ
fresh N es zero x = 0
fresh N es (suc n) x = fresh N es n x + cond (nat_lt (entry_at es n).cell N) (1 - weight (x (entry_at es n).cell)) 0

-- room is the room below less the held cells that are zero below; clean is none held, and clean below
abbrev pub held_over : List Entry → ℕ → Meaning → Meaning
held_over es n m = record {
  bands = m.bands;
  cells = over es n m.cells;
  room = m.room -ℤ pos (fresh (cell_count m.bands) es n m.cells);
  clean = cond (n == 0) m.clean false;
}

-- all that a store is known by is the same
pub record Alike (m n : Meaning) : Type 0 where
  pub same : Same m n
  pub clean : n.clean ≡ m.clean

-- a cell that is refused is not zero
abbrev pub zero_at : Meaning → ℕ → Bool
zero_at m c = nat_lt c (cell_count m.bands) && (weight (m.cells c) == 0)
