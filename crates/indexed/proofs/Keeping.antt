-- What every history keeps true of an indexed warehouse.
use Rattle.std.proofs.Common.{◌≡◌, ℕ, suc, ◌-◌, ◌*◌, ◌/◌, ◌^◌, ◌<◌, ◌≤◌, ltb, leb, ◌⊎◌, List, [], ◌∷◌, map, ℤ, pos, ◌+ℤ◌, Ok, sym, refl, ap, ◌∙◌, subst, ap₂, inl, inr, ⊎_elim, arith}
use mathlib.Core.List.Memᴰ
use mathlib.Core.List.{Memᴰ}
use Rattle.std.proofs.lemmas.Int.{ints}
use Rattle.std.proofs.lemmas.Bool.{cases_lt, cases_eq, lt-ltb, le-ltb, le-leb, lt-leb, cond-true, cond-false}
use Rattle.haar.specs.Tiles.{cell_count}
use Rattle.haar.proofs.Count.{indices_mem, indices_has}
use Rattle.store.specs.Meaning.{filled, Same}
use Rattle.store.proofs.Counting.{filled_same}
use Rattle.warehouse.proofs.Sums.{reads_point}
use Rattle.agreement.specs.Call.{Call, load, add, grow, settle, point, sum, mean, trend}
use Rattle.agreement.specs.Check.{put, held}
use Rattle.agreement.specs.History.{Tally, plus, enter, capacity}
use Rattle.audit.proofs.Auditing.{founded_stands}
use Rattle.agreement.specs.Share.{chunk_values}
use Rattle.agreement.proofs.Keeping as plain-keeping
use Rattle.indexed.specs.Largest.{tile_minutes, tile_largest, Indexed}
use Rattle.indexed.specs.Piles.{Piles, Founded}
use Rattle.indexed.specs.Piles as piles
use Rattle.indexed.specs.Writing.{Change, load_change, growth_change, new_minute, Rewritten}
use Rattle.indexed.specs.Step.{IndexChanges}
use Rattle.indexed.specs.History.{Beginning, Begins, founding, piles_at, tally}
use Rattle.indexed.specs.History as history
use Rattle.indexed.proofs.Largest.{largest_same, largest_zeros}
use Rattle.indexed.proofs.Tiles.{unmet, grown_tile}

pub record Keeps (origin : Piles) (t : Tally) (v : Piles) : Type 0 where
  pub first : plain-keeping.Keeps origin.first.store t v.first
  pub bands : v.index.bands ≡ origin.index.bands
  pub alike : origin.index.bands ≡ origin.first.store.bands
  pub cells : Indexed v.index.bands v.first.size t.minutes v.index.cells
  pub room : capacity v.index ≡ capacity origin.index

pub begins_keeps : (start : Beginning) → Begins start → Keeps (piles_at start) (tally start history.new) (piles_at start)
begins_keeps start s =
    record { first = plain-keeping.begins_keeps start.first s.data_stand; bands = refl; alike = s.bands; cells = s.cells; room = refl }

pub founded_begins : (v : Piles) → Founded v → Begins (founding v)
founded_begins v e =
    record {
      data_stand = founded_stands v.first e.first;
      bands = e.bands;
      cells = λ c h. e.empty c h ∙ sym (largest_zeros (λ i. pos 0) _ _ (λ i _ _. refl));
    }

-- a write of a cell for each tile
pub writes_tile : (L : ℕ → ℤ) (ks : List ℕ) (c : ℕ) (z : ℤ) → Memᴰ (put c z) (map (λ k. put k (L k)) ks) → Memᴰ c ks × (z ≡ L c)
writes_tile L ks c z h =
    let (k, i, e) = Memᴰ.of_map (λ k. put k (L k)) ks h in
    let a : k ≡ c = cc in
    let b : L k ≡ z = cc in
    (subst (λ k. Memᴰ k ks) a i, sym b ∙ ap L a)

module _ (origin : Piles) (t : Tally) (v : Piles) (k : Keeps origin t v) where
  -- a minute is read as the tally has it
  pub point_read : (i : ℕ) → i < 2 ^ v.first.size → piles.point v.first i ≡ Ok (t.minutes i)
  point_read i h = reads_point v.first.size t.minutes v.first.store k.first.some k.first.fits k.first.cells k.first.small i h

  abbrev new : Change → ℕ → ℤ
  new change = new_minute v.first.size (piles.point v.first) change

  new_inside : (change : Change) (i : ℕ) → i < 2 ^ v.first.size → new change i ≡ t.minutes i +ℤ change.adds i
  new_inside change i h = ap (λ r. held r +ℤ change.adds i) (cond-true (ltb i (2 ^ v.first.size)) (piles.point v.first i) (Ok (pos 0)) (lt-ltb _ _ h) ∙ point_read i h)

  new_past : (change : Change) (i : ℕ) → 2 ^ v.first.size ≤ i → new change i ≡ pos 0 +ℤ change.adds i
  new_past change i h = ap (λ r. held r +ℤ change.adds i) (cond-false (ltb i (2 ^ v.first.size)) (piles.point v.first i) (Ok (pos 0)) (le-ltb _ _ h))

  -- a change to the tally u, where each tile that it does not meet keeps its largest minute
  module _ (change : Change) (u : Tally) (size : change.size ≡ u.size) (known : (i : ℕ) → i < 2 ^ change.size → new change i ≡ u.minutes i) (met : (c : ℕ) → Memᴰ c change.tiles ⊎ ((Memᴰ c change.tiles → ⊥) × (tile_largest v.first.size t.minutes c ≡ tile_largest u.size u.minutes c))) where
    new_largest : (c : ℕ) → tile_largest change.size (new change) c ≡ tile_largest u.size u.minutes c
    new_largest c = largest_same _ _ (16 * c) (tile_minutes change.size c) (λ i a b. known i (omega arith)) ∙ ap (λ n. tile_largest n u.minutes c) size

    module _ (w : Piles) (r : Rewritten v change w) where
      new_cell : (c : ℕ) → c < cell_count v.index.bands → w.index.cells c ≡ tile_largest u.size u.minutes c
      new_cell c h =
          ⊎_elim (λ i. r.written c _ (Memᴰ.map (λ k. put k (tile_largest change.size (new change) k)) i) ∙ new_largest c)
          (λ out. r.others c h (λ z i. out.0 (writes_tile (tile_largest change.size (new change)) change.tiles c z i).0) ∙ k.cells c h ∙ out.1)
          (met c)

      rewritten_keeps : plain-keeping.Keeps origin.first.store u w.first → Keeps origin u w
      rewritten_keeps first =
          record {
            first = first;
            bands = r.bands ∙ k.bands;
            alike = k.alike;
            cells = λ c h. new_cell c (subst (λ T. c < cell_count T) r.bands h) ∙ sym (ap (λ n. tile_largest n u.minutes c) first.size);
            room = ap (λ T. w.index.room +ℤ pos (filled w.index.cells (cell_count T))) r.bands ∙ r.room ∙ k.room;
          }

  -- an index that stays
  pub same_index : (w : Piles) → Same v.index w.index → plain-keeping.Keeps origin.first.store t w.first → Keeps origin t w
  same_index w s first =
      record {
        first = first;
        bands = s.bands ∙ k.bands;
        alike = k.alike;
        cells = λ c h. let h : c < cell_count v.index.bands = subst (λ T. c < cell_count T) s.bands h in s.cells c h ∙ k.cells c h ∙ ap (λ n. tile_largest n t.minutes c) (k.first.size ∙ sym first.size);
        room = ap₂ (λ r T. r +ℤ pos (filled w.index.cells (cell_count T))) s.room s.bands ∙ ap (λ b. v.index.room +ℤ pos b) (filled_same v.index.cells w.index.cells _ s.cells) ∙ k.room;
      }

  load_met : (m p : ℕ) (values : List ℤ) (c : ℕ) → Memᴰ c (load_change v.first.size m p values).tiles ⊎ ((Memᴰ c (load_change v.first.size m p values).tiles → ⊥) × (tile_largest v.first.size t.minutes c ≡ tile_largest t.size (plus t m p values).minutes c))
  load_met m p values c =
      ⊎_elim (λ e. inl (indices_has m p 4 c e))
      (λ out. inr (λ h. out (indices_mem m p 4 c h), unmet v.first.size m p c values t.minutes out ∙ ap (λ n. tile_largest n (plus t m p values).minutes c) k.first.size))
      (cases_eq (c / 2 ^ (m - 4)) (p / 2 ^ (4 - m)))

  loaded_keeps : (m p : ℕ) (values : List ℤ) (w : Piles) → Rewritten v (load_change v.first.size m p values) w → plain-keeping.Keeps origin.first.store (plus t m p values) w.first → Keeps origin (plus t m p values) w
  loaded_keeps m p values = rewritten_keeps (load_change v.first.size m p values) (plus t m p values) k.first.size (new_inside (load_change v.first.size m p values)) (load_met m p values)

  grown_known : (i : ℕ) → i < 2 ^ suc v.first.size → new (growth_change v.first.size) i ≡ t.minutes i
  grown_known i h =
      ⊎_elim (λ lt. new_inside (growth_change v.first.size) i lt ∙ omega (arith, ints))
      (λ le. new_past (growth_change v.first.size) i le ∙ sym (k.first.blank i le))
      (cases_lt i (2 ^ v.first.size))

  grown_met : (c : ℕ) → Memᴰ c (growth_change v.first.size).tiles ⊎ ((Memᴰ c (growth_change v.first.size).tiles → ⊥) × (tile_largest v.first.size t.minutes c ≡ tile_largest (suc t.size) t.minutes c))
  grown_met c =
      ⊎_elim
      (λ (le : v.first.size ≤ 3).
      let e = cond-true (leb v.first.size 3) (0 ∷ []) [] (le-leb _ _ le) in
      ⊎_elim (λ (z : c ≡ 0). inl (subst (Memᴰ c) (sym e) (Memᴰ.head z)))
      (λ (ne : c ≡ 0 → ⊥). inr (λ h. ⊎_elim ne (λ h. Memᴰ.not-nil h) (Memᴰ.cases_cons (subst (Memᴰ c) e h)), kept c (λ _. omega arith)))
      (cases_eq c 0))
      (λ (lt : 3 < v.first.size).
      let e = cond-false (leb v.first.size 3) (0 ∷ []) [] (lt-leb _ _ lt) in
      inr (λ h. Memᴰ.not-nil (subst (Memᴰ c) e h), kept c (λ le. absurd (omega arith))))
      (cases_le v.first.size 3)
    where
      kept : (c : ℕ) → (v.first.size ≤ 3 → 1 ≤ c) → tile_largest v.first.size t.minutes c ≡ tile_largest (suc t.size) t.minutes c
      kept c h = grown_tile v.first.size c t.minutes k.first.blank h ∙ ap (λ n. tile_largest (suc n) t.minutes c) k.first.size

      cases_le : (a b : ℕ) → (a ≤ b) ⊎ (b < a)
      cases_le a b = ⊎_elim (λ lt. inr lt) (λ le. inl le) (cases_lt b a)

  grown_keeps : (w : Piles) → Rewritten v (growth_change v.first.size) w → plain-keeping.Keeps origin.first.store (record { size = suc t.size; mark = t.mark; minutes = t.minutes }) w.first → Keeps origin (record { size = suc t.size; mark = t.mark; minutes = t.minutes }) w
  grown_keeps = rewritten_keeps (growth_change v.first.size) (record { size = suc t.size; mark = t.mark; minutes = t.minutes }) (ap suc k.first.size) grown_known grown_met

  -- an accepted call
  pub index_keeps : (call : Call) (w : Piles) → IndexChanges v call w → plain-keeping.Keeps origin.first.store (enter t call) w.first → Keeps origin (enter t call) w
  index_keeps (load m p taken buffer) w d first = loaded_keeps m p (chunk_values m buffer) w d first
  index_keeps (add i x) w d first = loaded_keeps 0 i (x ∷ []) w d first
  index_keeps grow w d first = grown_keeps w d first
  index_keeps settle w d first = same_index w d.same first
  index_keeps (point i) w d first = same_index w d first
  index_keeps (sum a b) w d first = same_index w d first
  index_keeps (mean a b) w d first = same_index w d first
  index_keeps (trend j i) w d first = same_index w d first
