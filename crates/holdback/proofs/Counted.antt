-- The layer's count of the held cells that are zero below, and a layer that holds none.
use Rattle.std.proofs.Common.{◌≡◌, ℕ, zero, suc, ◌-◌, ◌≤◌, ◌⊎◌, Bool, true, false, nat_lt, cond, List, length, take, count_by, ℤ, pos, negsuc, refl, inl, inr, add-one, arith}
use Rattle.std.proofs.lemmas.Int.{ints}
use Rattle.std.proofs.lemmas.Bool.{cases_eq, cases_lt}
use Rattle.std.proofs.lemmas.List.Sums.{count_by_more_yes, count_by_more_no}
use Rattle.std.proofs.lemmas.Bool.Decides.{nat_tests}
use Rattle.haar.specs.Tiles.{cell_count}
use Rattle.store.specs.declared.entry.Entry.{Entry}
use Rattle.store.specs.Meaning.{Meaning, weight}
use Rattle.store.specs.Table.{entry_at}
use Rattle.store.proofs.Counting.{weight_one, weight_most}
use Rattle.holdback.specs.Over.{fresh, held_over, Alike, zero_at}

-- a layer that holds none means what the store below means
pub alike_none : (es : List Entry) (m : Meaning) → Alike m (held_over es 0 m)
unfolding fresh
alike_none es m = record { same = record { bands = refl; cells = λ k _. refl; room = omega (arith, ints) }; clean = refl }

-- the entries whose cell is zero below, counted
pub fresh_counted : (m : Meaning) (es : List Entry) (n : ℕ) → n ≤ length es → count_by (λ e. zero_at m e.cell) (take n es) ≡ fresh (cell_count m.bands) es n m.cells
unfolding fresh
fresh_counted m es zero l = refl
fresh_counted m es (suc n) l =
    let p : Entry → Bool = λ e. zero_at m e.cell in
    let e = entry_at es n in
    let rest = fresh_counted m es n (omega arith) in
    elim (cases_lt e.cell (cell_count m.bands)) [
      | inl inside ↦ elim (cases_eq (weight (m.cells e.cell)) 0) [
        | inl none ↦
            let yes : p e ≡ true = grind (arith, nat_tests) in
            let more = simp add-one at (count_by_more_yes p es n _ l yes) in
            let one : cond (nat_lt e.cell (cell_count m.bands)) (1 - weight (m.cells e.cell)) 0 ≡ 1 = grind (arith, nat_tests) in
            omega arith
        | inr some ↦
            let most = weight_most (m.cells e.cell) in
            let no : p e ≡ false = grind (arith, nat_tests) in
            let more = simp add-one at (count_by_more_no p es n _ l no) in
            let none : cond (nat_lt e.cell (cell_count m.bands)) (1 - weight (m.cells e.cell)) 0 ≡ 0 = grind (arith, nat_tests) in
            omega arith
      ]
      | inr past ↦
          let no : p e ≡ false = grind (arith, nat_tests) in
          let more = simp add-one at (count_by_more_no p es n _ l no) in
          let none : cond (nat_lt e.cell (cell_count m.bands)) (1 - weight (m.cells e.cell)) 0 ≡ 0 = grind (arith, nat_tests) in
          omega arith
    ]

cases_zero : (z : ℤ) → (z ≡ pos 0) ⊎ (z ≡ pos 0 → ⊥)
cases_zero (pos zero) = inl refl
cases_zero (pos (suc n)) = inr (λ e. cc)
cases_zero (negsuc n) = inr (λ e. cc)

pub zero_here : (m : Meaning) (c : ℕ) → zero_at m c ≡ true → m.cells c ≡ pos 0
zero_here m c z = elim (cases_zero (m.cells c)) [ inl e ↦ e | inr some ↦ let one = weight_one (m.cells c) some in absurd (grind (arith, nat_tests)) ]
