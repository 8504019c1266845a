-- Each change of a layer as a write to the store that it means.
use Rattle.std.proofs.Common.{◌≡◌, ℕ, ◌<◌, List, ℤ, pos, ◌+ℤ◌, refl, ap, ◌∙◌, sym, arith}
use Rattle.std.proofs.lemmas.Int.{ints}
use Rattle.haar.specs.Tiles.{cell_count}
use Rattle.store.specs.declared.entry.Entry.{Entry}
use Rattle.store.specs.Meaning.{Meaning, weight, filled, Put}
use Rattle.store.specs.Table.{lookup, StoredAmong}
use Rattle.store.proofs.Counting.{filled_put, put_keeps}
use Rattle.store.proofs.Tidy.{Tidy}
use Rattle.holdback.specs.Over.{choose, over, fresh, held_over}
use Rattle.holdback.specs.Laws.{choose_held, choose_none, fresh_filled}

-- room and nonzero cells of the store below stay together, so those of the layer do
pub held_puts : (m m' : Meaning) (es fs : List Entry) (n k c : ℕ) (v : ℤ) → c < cell_count m.bands → Tidy es n → Tidy fs k → m'.bands ≡ m.bands
    → m'.room +ℤ pos (filled m'.cells (cell_count m.bands)) ≡ m.room +ℤ pos (filled m.cells (cell_count m.bands))
    → over fs k m'.cells c ≡ v
    → ((d : ℕ) → d < cell_count m.bands → (d ≡ c → ⊥) → over fs k m'.cells d ≡ over es n m.cells d)
    → Put (held_over es n m) c v (held_over fs k m')
held_puts m m' es fs n k c v l t u same keeps here rest =
    let N = cell_count m.bands in
    let old = fresh_filled N es n m.cells t in
    let new = fresh_filled N fs k m'.cells u in
    let width : fresh (cell_count m'.bands) fs k m'.cells ≡ fresh N fs k m'.cells = ap (λ (T : ℕ). fresh (cell_count T) fs k m'.cells) same in
    let put = filled_put (over es n m.cells) (over fs k m'.cells) c N l rest in
    let w = ap weight here in
    record { bands = same; here = here; others = rest; room = omega (arith, ints) }

-- a number held, for a cell that is held already or not
pub hold_puts : (m : Meaning) (es fs : List Entry) (n k c : ℕ) (v : ℤ) → c < cell_count m.bands → Tidy es n → Tidy fs k → (v ≡ pos 0 → ⊥) → StoredAmong es n c v fs k
    → Put (held_over es n m) c v (held_over fs k m)
hold_puts m es fs n k c v inside t u z s =
    held_puts m m es fs n k c v inside t u refl refl
    (choose_held _ _ (λ q. z (sym s.here ∙ q)) ∙ s.here)
    (λ d _ ne. ap (λ (h : ℤ). choose h (m.cells d)) (s.others d ne))

-- a number written below, to a cell that is held no more
pub pass_puts : (m m' : Meaning) (es fs : List Entry) (n k c : ℕ) (v : ℤ) → c < cell_count m.bands → Tidy es n → Tidy fs k → StoredAmong es n c (pos 0) fs k → Put m c v m'
    → Put (held_over es n m) c v (held_over fs k m')
pass_puts m m' es fs n k c v inside t u s p =
    held_puts m m' es fs n k c v inside t u p.bands (put_keeps m m' c v inside p)
    (choose_none _ _ s.here ∙ p.here)
    (λ d l ne. ap (λ (h : ℤ). choose h (m'.cells d)) (s.others d ne) ∙ ap (choose (lookup es n d)) (p.others d l ne))
