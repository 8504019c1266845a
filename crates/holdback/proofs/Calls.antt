-- What the layer's calls answer, from what is found in its table and below.
use Rattle.std.proofs.Common.{◌≡◌, ◌≢◌, ◌↔◌, ℕ, ◌<◌, Bool, true, false, not, IsTrue, List, ℤ, pos, Option, Some, None, Result, Ok, Err, MatchResult, sym, refl, ap, ◌∙◌, subst, inl, inr, arith}
use Rattle.std.specs.Option.{unwrap_or, is_some}
use Rattle.std.proofs.lemmas.Int.{ints}
use Rattle.haar.specs.Tiles.{cell_count}
use Rattle.store.specs.declared.entry.Entry.{Entry}
use Rattle.store.specs.declared.fault.CellFault.{CellFault}
use Rattle.store.specs.declared.fault.CellFault.TheVariants.{Full}
use Rattle.store.specs.Meaning.{Meaning, weight, Reads, Writes, Fits, Bars, Put}
use Rattle.store.specs.Contents.{Puts, Stored}
use Rattle.store.specs.Writing.{Putting}
use Rattle.store.specs.Table.{FindsAmong, StoredAmong}
use Rattle.store.proofs.Counting.{weight_one}
use Rattle.store.proofs.Lookups.{miss}
use Rattle.store.proofs.Storing.{unheld, stored_none, puts_refused}
use Rattle.store.proofs.Tidy.{Tidy, tidy}
use Rattle.holdback.specs.declared.held.HoldBack.{HoldBack}
use Rattle.holdback.specs.Layer.{Goes, layer_means}
use Rattle.holdback.specs.Over.{choose, held_over}
use Rattle.holdback.specs.Laws.{choose_held, choose_none}
use Rattle.holdback.proofs.Holding.{hold_puts, pass_puts}

-- a cell that the store below reads is not refused
pub reads_over : (m : Meaning) (es : List Entry) (n c : ℕ) (x : ℤ) (held : Option ℤ) → Reads m c (Ok x) → FindsAmong es n c held → Reads (held_over es n m) c (Ok (unwrap_or held x))
reads_over m es n c x (Some v) r f = record {
  inside = λ _. ap (λ (z : ℤ). Ok z) (sym (ap (λ (h : ℤ). choose h (m.cells c)) f.0 ∙ choose_held v _ f.1));
  outside = λ l. let e = r.outside l in cc;
}
reads_over m es n c x None r f = record {
  inside = λ l. r.inside l ∙ ap (λ (z : ℤ). Ok z) (sym (choose_none _ _ (miss es n c f)));
  outside = λ l. let e = r.outside l in cc;
}

-- a write that is done
pub writes_done : (m n : Meaning) (c : ℕ) (v : ℤ) → c < cell_count m.bands → (Bars m c v → ⊥) → Put m c v n → Writes m c v (Ok tt) n
writes_done m n c v inside free p = record {
  outside = λ o. absurd (omega arith);
  full = λ _ b. absurd (free b);
  done = λ _ _. refl;
  put = λ _. p;
  kept = λ f e. cc;
}

-- a zero cell cannot become nonzero without room
pub writes_full : (m : Meaning) (c : ℕ) (v : ℤ) → c < cell_count m.bands → Bars m c v → Writes m c v (Err (Full c)) m
writes_full m c v inside bars = record {
  outside = λ o. absurd (omega arith);
  full = λ _ _. refl;
  done = λ _ no. absurd (no bars);
  put = λ e. cc;
  kept = λ _ _. (record { bands = refl; cells = λ _ _. refl; room = refl }, refl);
}

-- a cell that is not held, and zero below: only room decides
pub bars_zero : (m : Meaning) (es : List Entry) (n c : ℕ) (held : Option ℤ) (r : Bool) → FindsAmong es n c held → is_some held ≡ false → m.cells c ≡ pos 0 → Fits (held_over es n m) 1 r
    → (v : ℤ) → (v ≢ pos 0) → (IsTrue (not r) ↔ Bars (held_over es n m) c v)
bars_zero m es n c (Some x) r f e zero room v some = cc
bars_zero m es n c None true f e zero room v some = (λ no. cc, λ b. let enough = room.yes refl in let short = b.2 in absurd (omega (arith, ints)))
bars_zero m es n c None false f e zero room v some = (λ _. (ap weight (choose_none _ _ (miss es n c f) ∙ zero), weight_one v some, room.none refl), λ _. refl)

-- a number written below, to a cell that is held no more
writes_passed : (m m' : Meaning) (es fs : List Entry) (n k c : ℕ) (v : ℤ) (r : Result Unit CellFault) → c < cell_count m.bands → Tidy es n → Tidy fs k → (Bars (held_over es n m) c v → ⊥) → (Bars m c v → ⊥)
    → StoredAmong es n c (pos 0) fs k → Writes m c v r m' → Writes (held_over es n m) c v r (held_over fs k m')
writes_passed m m' es fs n k c v r inside t u free below s w =
    let ok = w.done inside below in
    let W : Result Unit CellFault → Type 0 = λ x. Writes (held_over es n m) c v x (held_over fs k m') in
    subst W (sym ok) (writes_done (held_over es n m) (held_over fs k m') c v inside free (pass_puts m m' es fs n k c v inside t u s (w.put ok)))

-- what a write's contract says
pub record Answered {S : Type 0} (means : S → Meaning) (puts : Putting S) (h k : HoldBack S) (c : ℕ) (v : ℤ) (r : Result Unit CellFault) : Type 0 where
  pub writes : Writes (layer_means means h) c v r (layer_means means k)
  pub goes : r ≡ Ok tt → Goes means puts h c v k
  pub refused : (f : CellFault) → r ≡ Err f → k ≡ h

module _ {S : Type 0} (means : S → Meaning) (puts : Putting S) (h k : HoldBack S) (c : ℕ) (v : ℤ) where
  -- a number other than zero: held, or, where no entry is free for it, written below, which has room where the layer has
  pub written_nonzero : (held r : Result Unit CellFault) → c < cell_count (means h.below).bands → (v ≢ pos 0) → (Bars (layer_means means h) c v → ⊥) → Puts 64 h.held c v held k.held
      → MatchResult held (λ _. (k.below ≡ h.below) × (r ≡ Ok tt)) (λ _. Writes (means h.below) c v r (means k.below) × (r ≡ Ok tt → puts h.below c v k.below)) → Answered means puts h k c v r
  written_nonzero (Ok d) r inside some free p f =
      let P : S → Type 0 = λ b. Put (layer_means means h) c v (held_over k.held.entries k.held.used (means b)) in
      let W : Result Unit CellFault → Type 0 = λ x. Writes (layer_means means h) c v x (layer_means means k) in
      let put = subst P (sym f.0) (hold_puts (means h.below) _ _ _ _ c v inside (tidy h.held) (tidy k.held) some (p.stored refl)) in
      record {
        writes = subst W (sym f.1) (writes_done (layer_means means h) (layer_means means k) c v inside free put);
        goes = λ _. record {
          held = λ _ _. (p.stored refl, f.0);
          passed = λ _ lacks full. let no = p.full (ap weight (miss _ _ c lacks), weight_one v some, full) in cc;
          dropped = λ z. absurd (some z);
        };
        refused = λ e no. let ok = f.1 in cc;
      }
  written_nonzero (Err e) r inside some free p f =
      let o = puts_refused _ _ _ _ _ _ _ e p in
      let lacks = unheld _ _ c (tidy h.held) o.0 in
      let same = p.kept e refl in
      let E : List Entry → Type 0 = λ es. StoredAmong h.held.entries h.held.used c (pos 0) es k.held.used in
      let K : ℕ → Type 0 = λ j. StoredAmong h.held.entries h.held.used c (pos 0) h.held.entries j in
      let stored = subst E (sym same.0) (subst K (sym same.1) (stored_none _ _ c lacks)) in
      let below : Bars (means h.below) c v → ⊥ = λ b. free (ap weight (choose_none _ _ (miss _ _ c lacks)) ∙ b.0, b.1, let room = b.2 in omega (arith, ints)) in
      record {
        writes = writes_passed (means h.below) (means k.below) _ _ _ _ c v r inside (tidy h.held) (tidy k.held) free below stored f.0;
        goes = λ ok. record {
          held = λ _ why. absurd (elim why [ inl held ↦ held lacks | inr room ↦ omega (arith, o.2) ]);
          passed = λ _ _ _. (same, record { known = f.0.put ok; whole = f.1 ok });
          dropped = λ z. absurd (some z);
        };
        refused = λ e no. let ok = f.0.done inside below in cc;
      }

  -- zero, which needs no room
  pub written_zero : (r : Result Unit CellFault) → c < cell_count (means h.below).bands → v ≡ pos 0 → Stored h.held c (pos 0) k.held → Writes (means h.below) c (pos 0) r (means k.below)
      → (r ≡ Ok tt → puts h.below c (pos 0) k.below) → Answered means puts h k c v r
  written_zero r inside z s w p =
      let none : (m : Meaning) → Bars m c (pos 0) → ⊥ = λ m b. omega (arith, b.1) in
      let W : ℤ → Type 0 = λ x. Writes (layer_means means h) c x r (layer_means means k) in
      let passed = writes_passed (means h.below) (means k.below) _ _ _ _ c (pos 0) r inside (tidy h.held) (tidy k.held) (none (layer_means means h)) (none (means h.below)) s w in
      record {
        writes = subst W (sym z) passed;
        goes = λ ok. record {
          held = λ some _. absurd (some z);
          passed = λ some _ _. absurd (some z);
          dropped = λ _. (s, record { known = w.put ok; whole = p ok });
        };
        refused = λ f e. let ok = w.done inside (none (means h.below)) in cc;
      }
