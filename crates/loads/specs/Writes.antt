-- What an addition makes of a store, in full: one write to each touched cell, in rising cell number.
--   Adding     a write to a touched cell below `from`: its number before, with the data's share of it on top
--   Touching   the list of those writes
--   Wrote      the store t is s after them
--   Underway   a load that the store takes has written the touched cells below `from`
--   WroteAll   it is s after all of them
--   AddedTo    an accepted addition of a chunk with the values zs wrote them all; a refused one left the warehouse as it was
use Rattle.std.specs.Prelude.{◌≡◌, ℕ, ◌<◌, max, List, ℤ, ◌+ℤ◌, Ok, Err, Result}
use Rattle.std.specs.List.{All, Contains}
use Rattle.haar.specs.declared.coefficient.Coefficient.{Coefficient}
use Rattle.haar.specs.Tiles.{cell_number, cell_count}
use Rattle.store.specs.declared.entry.Entry.{Entry}
use Rattle.store.specs.Meaning.{Meaning}
use Rattle.store.specs.Writing.{Putting, Rising, Written}
use Rattle.warehouse.specs.declared.record.Warehouse.{Warehouse}
use Rattle.warehouse.specs.View.{known, end_of}
use Rattle.loads.specs.Reach.{Meets, Takes}
use Rattle.loads.specs.Passes.{Partly}
use Rattle.loads.specs.Share.{minutes}

pub record Adding (T n m p : ℕ) (g x : ℕ → ℤ) (from : ℕ) (w : Entry) : Type 0 where
  pub below : w.cell < from
  pub share : ℤ
  pub takes : Takes T n m p g w.cell share
  pub number : w.value ≡ x w.cell +ℤ share

pub record Touching (T n m p : ℕ) (g x : ℕ → ℤ) (from : ℕ) (ws : List Entry) : Type 0 where
  pub rising : Rising ws
  pub each : All (Adding T n m p g x from) ws
  pub every : (s : Coefficient) → Meets n m p s → cell_number T s < from
      → (w : Entry) × Contains ws w × (w.cell ≡ cell_number T s)

pub record Wrote {S : Type 0} (puts : Putting S) (T n m p : ℕ) (g x : ℕ → ℤ) (s t : S) (from : ℕ) : Type 0 where
  pub writes : List Entry
  pub touching : Touching T n m p g x from writes
  pub written : Written puts writes s t

abbrev pub Underway : {S : Type 0} → (S → Meaning) → Putting S → ℕ → ℕ → ℕ → ℕ → (ℕ → ℤ) → S → S → ℕ → Type 0
Underway means puts T n m p g s t from =
    Partly T n m p g (means s) (means t) from × Wrote puts T n m p g (means s).cells s t from

abbrev pub WroteAll : {S : Type 0} → (S → Meaning) → Putting S → ℕ → ℕ → ℕ → ℕ → (ℕ → ℤ) → S → S → Type 0
WroteAll means puts T n m p g s t = Wrote puts T n m p g (means s).cells s t (cell_count T)

abbrev pub AddedTo : {S E : Type 0} → (S → Meaning) → Putting S → Warehouse S → ℕ → ℕ → List ℤ → Result ℕ E → Warehouse S → Type 0
AddedTo means puts w m p zs (Ok _) w' =
    (w'.asked ≡ w.asked)
    × (w'.mark ≡ max (known means w).mark (end_of m p))
    × WroteAll means puts (means w.store).bands (known means w).size m p (minutes m p zs) w.store w'.store
AddedTo means puts w m p zs (Err _) w' = w' ≡ w
