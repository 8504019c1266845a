-- What the calls of a warehouse keep of a flat store: its loan, its bands, and what lies past its cells.
use Rattle.std.proofs.Common.{◌≡◌, ℕ, ◌≤◌, List, ℤ, Ok, Err, Result, sym, refl, ap, ◌∙◌, subst, ap₂}
use Rattle.haar.specs.Tiles.{cell_count}
use Rattle.store.specs.declared.entry.Entry.{Entry}
use Rattle.store.specs.Writing.{Written}
use Rattle.store.proofs.Writing.{written_keeps}
use Rattle.flat.specs.declared.slice.Flat.{Flat}
use Rattle.flat.specs.FlatMeaning.{flat_means, FlatPuts}
use Rattle.flat.specs.Slice.{number_at}
use Rattle.warehouse.specs.declared.record.Warehouse.{Warehouse}
use Rattle.warehouse.specs.Founding.{cut}
use Rattle.warehouse.specs.View.{known, view}
use Rattle.loads.specs.Growing.{GrownTo}
use Rattle.loads.specs.Writes.{AddedTo}
use Rattle.lent.specs.Lent.{Kept, Holds}

pub kept_itself : (s : Flat) → Kept s s
kept_itself s = record { loan = refl; bands = refl; past = λ k l. refl }

pub kept_on : (s t u : Flat) → Kept s t → Kept t u → Kept s u
kept_on s t u a b = record {
  loan = b.loan ∙ a.loan;
  bands = b.bands ∙ a.bands;
  past = λ k l. b.past k (subst (λ T. cell_count T ≤ k) (sym a.bands) l) ∙ a.past k l;
}

pub kept_same : (s t : Flat) → t ≡ s → Kept s t
kept_same s t e = subst (Kept s) (sym e) (kept_itself s)

kept_written : (ws : List Entry) (s t : Flat) → Written FlatPuts ws s t → Kept s t
kept_written = written_keeps FlatPuts Kept kept_itself kept_on (λ s t c v p. record { loan = p.loan; bands = p.bands; past = p.past })

pub kept_added : {E : Type 0} (w w' : Warehouse Flat) (m p : ℕ) (zs : List ℤ) (r : Result ℕ E) → AddedTo flat_means FlatPuts w m p zs r w' → Kept w.store w'.store
kept_added w w' m p zs (Ok _) a = kept_written a.2.writes _ _ a.2.written
kept_added w w' m p zs (Err _) e = kept_same _ _ (ap (λ x. x.store) e)

pub kept_grown : {E : Type 0} (w w' : Warehouse Flat) (r : Result ℕ E) → GrownTo flat_means FlatPuts w r w' → Kept w.store w'.store
kept_grown w w' (Ok _) a = kept_written _ _ _ a.2
kept_grown w w' (Err _) e = kept_same _ _ (ap (λ x. x.store) e)

-- what is known of a warehouse that was taken over
pub taken : (s : Flat) (w : Warehouse Flat) (size : ℕ) → w.store ≡ s → w.asked ≡ cut (flat_means s) size → w.mark ≡ 0 → known flat_means w ≡ view (flat_means s) (cut (flat_means s) size) 0
taken s w size e a z = λ t. view (flat_means (e t)) (a t) (z t)

-- a slice from whose numbers the store s was made, once s has become t and its loan is over
pub holds : (zs ys : List ℤ) (s t : Flat) → s.numbers.now ≡ zs → Kept s t → ys ≡ t.numbers.now → Holds zs ys (flat_means t)
holds zs ys s t same kept is = record {
  cells = λ k l. ap (λ x. number_at x k) is;
  past = λ k l.
      ap (λ x. number_at x k) is ∙ kept.past k (subst (λ T. cell_count T ≤ k) kept.bands l) ∙ ap (λ x. number_at x k) same;
}
