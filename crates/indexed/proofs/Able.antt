-- Every call can be made: there is always a step.
use Rattle.std.proofs.Common.{◌≡◌, ℕ, true, false, cond, eqb, List, [], ◌∷◌, map, ℤ, pos, ◌+ℤ◌, ◌-ℤ◌, Some, None, Option, sym, refl, ◌∙◌, ⊎_elim, arith}
use mathlib.Core.List.Memᴰ
use mathlib.Core.List.{Memᴰ}
use Rattle.std.proofs.lemmas.Int.{ints}
use Rattle.std.proofs.lemmas.Bool.{cases_eq, eq-eqb, ne_eqb, cond-true, cond-false}
use Rattle.haar.specs.Tiles.{cell_count}
use Rattle.store.specs.Meaning.{Meaning, filled, Same}
use Rattle.warehouse.specs.declared.fault.Fault.{Fault}
use Rattle.warehouse.specs.View.{View}
use Rattle.agreement.specs.Call.{Call, load, add, grow, settle, point, sum, mean, trend, Answer}
use Rattle.agreement.specs.Check.{put}
use Rattle.agreement.specs.Share.{chunk_values}
use Rattle.agreement.proofs.Able.{able_changes}
use Rattle.agreement.proofs.Checks.{or_none}
use Rattle.agreement.proofs.Steps as plain-steps
use Rattle.agreement.specs.History.{Tally}
use Rattle.indexed.specs.Piles.{Piles}
use Rattle.indexed.specs.Piles as piles
use Rattle.indexed.specs.Largest.{tile_largest}
use Rattle.indexed.specs.Writing.{Change, load_change, growth_change, new_minute, index_writes, Written}
use Rattle.indexed.specs.Step.{IndexedCall, plain, busiest, refusal, reply, Unchanged, IndexChanges, ChangesBy, Step}
use Rattle.indexed.proofs.Keeping.{Keeps, writes_tile}

-- the cells x with L at each of some cells
over : (L : ℕ → ℤ) → List ℕ → (ℕ → ℤ) → ℕ → ℤ
over L [] x c = x c
over L (k ∷ ks) x c = cond (eqb k c) (L c) (over L ks x c)

over_in : (L : ℕ → ℤ) (ks : List ℕ) (x : ℕ → ℤ) (c : ℕ) → Memᴰ c ks → over L ks x c ≡ L c
unfolding over
over_in L [] x c h = absurd (Memᴰ.not-nil h)
over_in L (k ∷ ks) x c h =
    ⊎_elim (λ (e : k ≡ c). cond-true (eqb k c) (L c) _ (eq-eqb _ _ e))
    (λ (ne : k ≡ c → ⊥). cond-false (eqb k c) (L c) _ (ne_eqb _ _ ne) ∙ ⊎_elim (λ (e : c ≡ k). absurd (ne (sym e))) (over_in L ks x c) (Memᴰ.cases_cons h))
    (cases_eq k c)

over_out : (L : ℕ → ℤ) (ks : List ℕ) (x : ℕ → ℤ) (c : ℕ) → (Memᴰ c ks → ⊥) → over L ks x c ≡ x c
unfolding over
over_out L [] x c h = refl
over_out L (k ∷ ks) x c h = cond-false (eqb k c) (L c) _ (ne_eqb _ _ (λ e. h (Memᴰ.head (sym e)))) ∙ over_out L ks x c (λ i. h (Memᴰ.tail i))

-- an index with some tiles' cells written
rewrite : (L : ℕ → ℤ) (ks : List ℕ) (m : Meaning) → (w : Meaning) × Written (map (λ k. put k (L k)) ks) m w
rewrite L ks m = (
  record { bands = m.bands; cells = over L ks m.cells; room = (m.room +ℤ pos (filled m.cells (cell_count m.bands))) -ℤ pos (filled (over L ks m.cells) (cell_count m.bands)); clean = false },
  record {
    bands = refl;
    written = λ k z h. let u = writes_tile L ks k z h in over_in L ks m.cells k u.0 ∙ sym u.1;
    others = λ k h out. over_out L ks m.cells k (λ i. out (L k) (Memᴰ.map (λ k. put k (L k)) i));
    room = omega (arith, ints);
  },
)

same : (m : Meaning) → Same m m
same m = record { bands = refl; cells = λ _ _. refl; room = refl }

pub unchanged : (v : Piles) → Unchanged v v
unchanged v = record { first = plain-steps.unchanged v.first; index = same v.index; clean = refl }

module _ (v : Piles) where
  index_rewritten : (change : Change) → (w : Meaning) × Written (index_writes v.first.size (piles.point v.first) change) v.index w
  index_rewritten change = rewrite (tile_largest change.size (new_minute v.first.size (piles.point v.first) change)) change.tiles v.index

  -- whatever becomes of the first pile
  index_able : (call : Call) (first : View) → (index : Meaning) × IndexChanges v call (record { first = first; index = index })
  index_able (load m p taken buffer) first = index_rewritten (load_change v.first.size m p (chunk_values m buffer))
  index_able (add i x) first = index_rewritten (load_change v.first.size 0 i (x ∷ []))
  index_able grow first = index_rewritten (growth_change v.first.size)
  index_able settle first =
      (record { bands = v.index.bands; cells = v.index.cells; room = v.index.room; clean = true }, record { same = record { bands = refl; cells = λ _ _. refl; room = refl }; clean = λ _. refl })
  index_able (point i) first = (v.index, same v.index)
  index_able (sum a b) first = (v.index, same v.index)
  index_able (mean a b) first = (v.index, same v.index)
  index_able (trend j i) first = (v.index, same v.index)

module _ (origin : Piles) (t : Tally) (v : Piles) (k : Keeps origin t v) where
  able_by : (o : Option Fault) (call : IndexedCall) → refusal v call ≡ o → (w : Piles) × ChangesBy o v call w
  able_by None (plain call) e =
      let (first, d) = able_changes origin.first.store t v.first k.first call (or_none _ _ e).0 in
      let (index, i) = index_able v call first in
      (record { first = first; index = index }, (d, i))
  able_by None (busiest a b) e = (v, unchanged v)
  able_by (Some f) call e = (v, unchanged v)

  pub able : (call : IndexedCall) → (a : Answer) × (w : Piles) × Step v call a w
  able call = let (w, d) = able_by (refusal v call) call refl in (reply v call, w, record { answers = refl; changes = d })
