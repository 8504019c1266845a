-- The laws of a store hold of every layer over a lawful store: its room and its zero cells are fewer by the same count.
use Rattle.std.specs.Prelude.{◌≡◌, ℕ, zero, suc, ◌+◌, List, ℤ, pos, negsuc, refl}
use Rattle.std.proofs.Common.{ap, ◌∙◌, inl, inr, arith}
use Rattle.std.proofs.lemmas.Int.{ints}
use Rattle.std.proofs.lemmas.Bool.{cases_lt}
use Rattle.std.proofs.lemmas.Bool.Decides.{nat_tests}
use Rattle.haar.specs.Tiles.{cell_count}
use Rattle.store.specs.declared.entry.Entry.{Entry}
use Rattle.store.specs.declared.table.Table.{Table}
use Rattle.store.specs.Meaning.{Meaning, Lawful, weight, filled}
use Rattle.store.specs.Table.{entry_at, lookup, Ascends, LacksAmong}
use Rattle.store.proofs.Counting.{filled_same, filled_put, weight_one, weight_most}
use Rattle.store.proofs.Lookups.{miss}
use Rattle.store.proofs.Tidy.{Tidy, tidy, tidy_part}
use Rattle.holdback.specs.Over.{choose, over, fresh, held_over}

-- a number that is held is chosen
pub choose_held : (h b : ℤ) → (h ≡ pos 0 → ⊥) → choose h b ≡ h
choose_held (pos zero) b z = absurd (z refl)
choose_held (pos (suc n)) b z = refl
choose_held (negsuc n) b z = refl

-- nothing held: the number below
pub choose_none : (h b : ℤ) → h ≡ pos 0 → choose h b ≡ b
choose_none h b e = ap (λ (x : ℤ). choose x b) e

-- the last entry and the others
last_lacked : (es : List Entry) (n : ℕ) → Ascends es (suc n) → LacksAmong es n (entry_at es n).cell
last_lacked es n a k l e = let up = a k n l (omega arith) in omega arith

last_here : (es : List Entry) (n : ℕ) → lookup es (suc n) (entry_at es n).cell ≡ (entry_at es n).value
last_here es n = grind (arith, nat_tests)

last_other : (es : List Entry) (n c : ℕ) → (c ≡ (entry_at es n).cell → ⊥) → lookup es (suc n) c ≡ lookup es n c
last_other es n c ne = grind (arith, nat_tests)

pub over_here : (es : List Entry) (n : ℕ) (x : ℕ → ℤ) → Tidy es (suc n) → over es (suc n) x (entry_at es n).cell ≡ (entry_at es n).value
over_here es n x t =
    ap (λ (h : ℤ). choose h (x (entry_at es n).cell)) (last_here es n) ∙ choose_held _ _ (t.nonzero n (omega arith))

pub over_before : (es : List Entry) (n : ℕ) (x : ℕ → ℤ) → Tidy es (suc n) → over es n x (entry_at es n).cell ≡ x (entry_at es n).cell
over_before es n x t = choose_none _ _ (miss es n _ (last_lacked es n t.ascends))

pub over_other : (es : List Entry) (n c : ℕ) (x : ℕ → ℤ) → (c ≡ (entry_at es n).cell → ⊥) → over es (suc n) x c ≡ over es n x c
over_other es n c x ne = ap (λ (h : ℤ). choose h (x c)) (last_other es n c ne)

-- the held cells that are zero below are nonzero above, and else the two have the same nonzero cells
pub fresh_filled : (N : ℕ) (es : List Entry) (n : ℕ) (x : ℕ → ℤ) → Tidy es n → fresh N es n x + filled x N ≡ filled (over es n x) N
unfolding fresh
fresh_filled N es zero x t = omega arith
fresh_filled N es (suc n) x t =
    let rest = fresh_filled N es n x (tidy_part es (suc n) n (omega arith) t) in
    let most = weight_most (x (entry_at es n).cell) in
    elim (cases_lt (entry_at es n).cell N) [
      | inl l ↦
          let put = filled_put (over es n x) (over es (suc n) x) (entry_at es n).cell N l (λ k _ ne. over_other es n k x ne) in
          let old = ap weight (over_before es n x t) in
          let new = ap weight (over_here es n x t) ∙ weight_one _ (t.nonzero n (omega arith)) in
          grind (arith, nat_tests)
      | inr l ↦
          let same = filled_same (over es n x) (over es (suc n) x) N (λ k u. over_other es n k x (λ q. omega arith)) in
          grind (arith, nat_tests)
    ]

pub layer_lawful : {N : ℕ} (t : Table N) (m : Meaning) → Lawful m → Lawful (held_over t.entries t.used m)
layer_lawful t m l =
    let held = fresh_filled (cell_count m.bands) t.entries t.used m.cells (tidy t) in
    record { few = l.few; room = omega (arith, ints, l.room) }
