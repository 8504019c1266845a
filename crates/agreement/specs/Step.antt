-- What one call does to a warehouse and answers.
--   Kept        size, mark, bands, cells and room are as they were
--   Unchanged   and cleanness too
--   Spent       room falls by 1 for each cell that became nonzero, and rises by 1 for each that became zero
--   Added       a chunk's values were added, and the mark is no lower than its end
--   Raised      the size was raised by 1
--   Settled     the store was settled
--   Changes     what an accepted call changes
--   Step        a call, its answer, and the views before and after it
use Rattle.std.specs.Prelude.{◌≡◌, ℕ, suc, max, List, [], ◌∷◌, ℤ, pos, ◌+ℤ◌, Some, None, Option}
use Rattle.haar.specs.Tiles.{cell_count}
use Rattle.haar.specs.Growth.{Grown}
use Rattle.store.specs.Meaning.{Meaning, filled, Same, Settles}
use Rattle.warehouse.specs.declared.fault.Fault.{Fault}
use Rattle.warehouse.specs.View.{View, end_of}
use Rattle.agreement.specs.Call.{Call, load, add, grow, settle, point, sum, mean, trend, Answer}
use Rattle.agreement.specs.Share.{chunk_values, SharesAdded}
use Rattle.agreement.specs.Check.{total_cell, refusal}
use Rattle.agreement.specs.Reply.{reply}

pub record Kept (v w : View) : Type 0 where
  pub size : w.size ≡ v.size
  pub mark : w.mark ≡ v.mark
  pub store : Same v.store w.store

pub record Unchanged (v w : View) : Type 0 where
  pub kept : Kept v w
  pub clean : w.store.clean ≡ v.store.clean

abbrev pub Spent : Meaning → Meaning → Type 0
Spent s t = t.room +ℤ pos (filled t.cells (cell_count s.bands)) ≡ s.room +ℤ pos (filled s.cells (cell_count s.bands))

-- the values of the chunk of level m and index p
pub record Added (m p : ℕ) (values : List ℤ) (v w : View) : Type 0 where
  pub size : w.size ≡ v.size
  pub mark : w.mark ≡ max v.mark (end_of m p)
  pub bands : w.store.bands ≡ v.store.bands
  pub cells : SharesAdded v.store.bands v.size m p values v.store.cells w.store.cells
  pub room : Spent v.store w.store

pub record Raised (v w : View) : Type 0 where
  pub size : w.size ≡ suc v.size
  pub mark : w.mark ≡ v.mark
  pub bands : w.store.bands ≡ v.store.bands
  pub cells : Grown v.store.bands v.size (v.store.cells (total_cell v.store.bands v.size)) v.store.cells w.store.cells
  pub room : Spent v.store w.store

pub record Settled (v w : View) : Type 0 where
  pub size : w.size ≡ v.size
  pub mark : w.mark ≡ v.mark
  pub store : Settles v.store w.store

abbrev pub Changes : View → Call → View → Type 0
Changes v (load m p taken buffer) w = Added m p (chunk_values m buffer) v w
Changes v (add i x) w = Added 0 i (x ∷ []) v w
Changes v grow w = Raised v w
Changes v settle w = Settled v w
Changes v (point i) w = Unchanged v w
Changes v (sum a b) w = Unchanged v w
Changes v (mean a b) w = Unchanged v w
Changes v (trend j k) w = Unchanged v w

-- a refused call changes nothing
abbrev pub ChangesBy : Option Fault → View → Call → View → Type 0
ChangesBy None v call w = Changes v call w
ChangesBy (Some f) v call w = Unchanged v w

pub record Step (v : View) (call : Call) (answer : Answer) (w : View) : Type 0 where
  pub answers : answer ≡ reply v call
  pub changes : ChangesBy (refusal v call) v call w
