-- Settling: each held number written below in turn, with room for all of them.
use Rattle.std.proofs.Common.{◌≡◌, ℕ, zero, suc, ◌+◌, ◌<◌, ◌≤◌, List, ℤ, pos, ◌-ℤ◌, ◌≤ℤ◌, Ok, Err, Result, sym, refl, ap, ◌∙◌, subst, inl, inr, add-one, arith}
use Rattle.std.proofs.lemmas.Int.{ints}
use Rattle.std.proofs.lemmas.Bool.{cases_eq, cases_lt}
use Rattle.std.proofs.lemmas.Bool.Decides.{nat_tests}
use Rattle.haar.specs.Tiles.{cell_count}
use Rattle.store.specs.declared.entry.Entry.{Entry}
use Rattle.store.specs.declared.fault.CellFault.{CellFault}
use Rattle.store.specs.Meaning.{Meaning, weight, Bars, Same, Put, Writes, Settles}
use Rattle.store.specs.Table.{entry_at}
use Rattle.store.specs.Writing.{Putting}
use Rattle.holdback.specs.Layer.{Sinks}
use Rattle.holdback.specs.Over.{fresh, held_over}
use Rattle.store.proofs.Tidy.{Tidy, tidy_part}
use Rattle.store.proofs.Counting.{weight_one}
use Rattle.holdback.specs.Laws.{over_here, over_other}
use Rattle.holdback.proofs.Counted.{alike_none}
use Rattle.holdback.proofs.Holding.{held_puts}

inside_of : (a b : Meaning) (c : ℕ) → b.bands ≡ a.bands → c < cell_count a.bands → c < cell_count b.bands
inside_of a b c e l = let P : ℕ → Type 0 = λ T. c < cell_count T in subst P (sym e) l

pub same_trans : (a b c : Meaning) → Same a b → Same b c → Same a c
same_trans a b c p q = record {
  bands = q.bands ∙ p.bands;
  cells = λ k l. q.cells k (inside_of a b k p.bands l) ∙ p.cells k l;
  room = q.room ∙ p.room;
}

-- the same write to two stores that are the same leaves them the same
same_put : (a b a' b' : Meaning) (c : ℕ) (v : ℤ) → c < cell_count a.bands → Same a b → Put a c v a' → Put b c v b' → Same a' b'
same_put a b a' b' c v inside s p q = record {
  bands = q.bands ∙ s.bands ∙ sym p.bands;
  cells = λ k l. let la = inside_of a' a k (sym p.bands) l in elim (cases_eq k c) [
    | inl e ↦ ap b'.cells e ∙ q.here ∙ sym p.here ∙ ap a'.cells (sym e)
    | inr ne ↦ q.others k (inside_of a b k s.bands la) ne ∙ s.cells k la ∙ sym (p.others k la ne)
  ];
  room = let w = ap weight (s.cells c inside) in let x = p.room in let y = q.room in let z = s.room in omega (arith, ints);
}

-- entries more only take room
fresh_up : (N : ℕ) (es : List Entry) (x : ℕ → ℤ) (i n : ℕ) → i ≤ n → fresh N es i x ≤ fresh N es n x
unfolding fresh
fresh_up N es x i zero l = let e : i ≡ 0 = omega arith in let f = ap (λ (k : ℕ). fresh N es k x) e in omega arith
fresh_up N es x i (suc n) l =
    elim (cases_eq i (suc n)) [
      | inl e ↦ let f = ap (λ (k : ℕ). fresh N es k x) e in omega arith
      | inr ne ↦ let f = fresh_up N es x i n (omega arith) in omega arith
    ]

-- one held number more, for a cell that the store below has
held_last : (m : Meaning) (es : List Entry) (i : ℕ) → Tidy es (suc i) → (entry_at es i).cell < cell_count m.bands
    → Put (held_over es i m) (entry_at es i).cell (entry_at es i).value (held_over es (suc i) m)
held_last m es i t inside =
    held_puts m m es es i (suc i) _ _ inside (tidy_part es (suc i) i (omega arith) t) t refl refl (over_here es i m.cells t) (λ d _ ne. over_other es i d m.cells ne)

-- and for one that it refuses: it does not count
held_refused : (m : Meaning) (es : List Entry) (i : ℕ) → cell_count m.bands ≤ (entry_at es i).cell → Same (held_over es (suc i) m) (held_over es i m)
unfolding fresh
held_refused m es i past =
    let e : fresh (cell_count m.bands) es (suc i) m.cells ≡ fresh (cell_count m.bands) es i m.cells = grind (arith, nat_tests) in record {
      bands = refl;
      cells = λ k l. sym (over_other es i k m.cells (λ q. omega arith));
      room = ap (λ (f : ℕ). m.room -ℤ pos f) (sym e);
    }

module _ (m₀ : Meaning) (es : List Entry) (n : ℕ) (t : Tidy es n) (room : pos 0 ≤ℤ (held_over es n m₀).room) where
  -- there is room below for the next one
  free : (m : Meaning) (i : ℕ) → i < n → (entry_at es i).cell < cell_count m₀.bands → Same (held_over es i m₀) m → Bars m (entry_at es i).cell (entry_at es i).value → ⊥
  free m i l inside s b =
      let u = tidy_part es n (suc i) (omega arith) t in
      let up = fresh_up (cell_count m₀.bands) es m₀.cells (suc i) n (omega arith) in
      let put = (held_last m₀ es i u inside).room in
      let one = weight_one _ (t.nonzero i l) in
      let here = ap weight (s.cells (entry_at es i).cell inside) in
      let none = b.0 in
      let small = b.2 in
      let same = s.room in
      omega (arith, ints)

  -- the next number written below
  pub pour_step : (m m' : Meaning) (i : ℕ) (r : Result Unit CellFault) → i < n → Same (held_over es i m₀) m → Writes m (entry_at es i).cell (entry_at es i).value r m'
      → Same (held_over es (i + 1) m₀) m'
  pour_step m m' i r l s w =
      rw (add-one i) (elim (cases_lt (entry_at es i).cell (cell_count m₀.bands)) [
        | inl inside ↦
            let u = tidy_part es n (suc i) (omega arith) t in
            let p = w.put (w.done (inside_of m₀ m _ s.bands inside) (free m i l inside s)) in
            same_put (held_over es i m₀) m (held_over es (suc i) m₀) m' _ _ inside s (held_last m₀ es i u inside) p
        | inr past ↦
            let P : ℕ → Type 0 = λ T. cell_count T ≤ (entry_at es i).cell in
            let k = (w.kept _ (w.outside (subst P (sym s.bands) past))).0 in
            same_trans (held_over es (suc i) m₀) (held_over es i m₀) m' (held_refused m₀ es i past) (same_trans (held_over es i m₀) m m' s k)
      ])

  -- it is in full what the store below makes of it
  pub sinks : {S : Type 0} (means : S → Meaning) (puts : Putting S) (s s' : S) (i : ℕ) (r : Result Unit CellFault)
      → i < n → Same (held_over es i m₀) (means s) → Writes (means s) (entry_at es i).cell (entry_at es i).value r (means s')
      → (r ≡ Ok tt → puts s (entry_at es i).cell (entry_at es i).value s') → ((f : CellFault) → r ≡ Err f → s' ≡ s)
      → Sinks means puts s (entry_at es i).cell (entry_at es i).value s'
  sinks means puts s s' i r l same w put refused = record {
    inside = λ h. put (w.done h (free (means s) i l (inside_of (means s) m₀ _ (sym same.bands) h) same));
    outside = λ h. refused _ (w.outside h);
  }

  -- all of them, and the store below settled
  pub settled : (m m' : Meaning) (fs : List Entry) → Same (held_over es n m₀) m → Settles m m' → Settles (held_over es n m₀) (held_over fs 0 m')
  settled m m' fs s q =
      let some : pos 0 ≤ℤ m.room = (let e = s.room in omega (arith, ints)) in record {
        same = same_trans (held_over es n m₀) m (held_over fs 0 m') s (same_trans m m' (held_over fs 0 m') q.same (alike_none fs m').same);
        clean = λ _. q.clean some;
      }

pub pour_none : (es : List Entry) (m : Meaning) → Same (held_over es 0 m) m
unfolding fresh
pour_none es m = record { bands = refl; cells = λ k _. refl; room = omega (arith, ints) }
