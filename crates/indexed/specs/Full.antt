-- What a load, a point addition or a growth makes of the index's store, in full.
--   index_entries        one write for each tile of the change, with the largest of its new minutes, whether it holds that already or not
--   Wrote                the store t is s after them, and after nothing else; their cells rise
--   WroteFor             an accepted call wrote them; a refused one left the store as it was
--   IndexLoaded          so a chunk's load or a point addition did, by the warehouse before and after, and IndexGrown a growth
use Rattle.std.specs.Prelude.{◌≡◌, ℕ, List, map, ℤ, Ok, Err, Result}
use Rattle.store.specs.declared.entry.Entry.{Entry}
use Rattle.store.specs.Meaning.{Meaning}
use Rattle.store.specs.Writing.{Putting, Rising, Written, entry}
use Rattle.warehouse.specs.View.{View}
use Rattle.warehouse.specs.View as first
use Rattle.indexed.specs.declared.indexed.Indexed.{Indexed}
use Rattle.indexed.specs.Largest.{tile_largest}
use Rattle.indexed.specs.Piles.{point}
use Rattle.indexed.specs.Writing.{Change, load_change, growth_change, new_minute}

abbrev pub index_entries : View → Change → List Entry
index_entries v change = map (λ k. entry k (tile_largest change.size (new_minute v.size (point v) change) k)) change.tiles

pub record Wrote {I : Type 0} (puts : Putting I) (v : View) (change : Change) (s t : I) : Type 0 where
  pub rising : Rising (index_entries v change)
  pub written : Written puts (index_entries v change) s t

abbrev pub WroteFor : {I X E : Type 0} → Putting I → View → Change → Result X E → I → I → Type 0
WroteFor puts v change (Ok _) s t = Wrote puts v change s t
WroteFor puts v change (Err _) s t = t ≡ s

abbrev pub IndexLoaded : {S I E : Type 0} → (S → Meaning) → Putting I → Indexed S I → ℕ → ℕ → List ℤ → Result ℕ E → Indexed S I → Type 0
IndexLoaded means puts w m p zs r w' =
    WroteFor puts (first.known means w.first) (load_change (first.known means w.first).size m p zs) r w.index.store w'.index.store

abbrev pub IndexGrown : {S I E : Type 0} → (S → Meaning) → Putting I → Indexed S I → Result ℕ E → Indexed S I → Type 0
IndexGrown means puts w r w' =
    WroteFor puts (first.known means w.first) (growth_change (first.known means w.first).size) r w.index.store w'.index.store
