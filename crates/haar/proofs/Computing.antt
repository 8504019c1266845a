-- The Haar cells as a function are the Haar cells.
use Rattle.std.proofs.Common.{◌≡◌, ℕ, ◌+◌, ◌-◌, ◌*◌, ◌^◌, ◌<◌, ◌≤◌, min, eqb, List, [], ◌∷◌, ℤ, pos, sym, refl, ap, ◌∙◌, ⊎_elim, lt_of_mul-lt-mul_right, arith, pow_pos, pow_mono, pow-add}
use native.Mathlib.Nat.{div-eq_of_lt, zero-div}
use mathlib.Core.List.Memᴰ
use mathlib.Core.List.{Memᴰ}
use Rattle.std.proofs.lemmas.Bool.{cases_lt, cases_eq, eq-eqb, ne_eqb, cond-true, cond-false}
use Rattle.haar.specs.declared.coefficient.Coefficient.{Coefficient}
use Rattle.haar.specs.declared.coefficient.Coefficient.TheVariants.{TileSum, Difference}
use Rattle.haar.specs.Tiles.{cell_number, Inside}
use Rattle.haar.specs.Haar.{value, HaarCells}
use Rattle.haar.specs.Load.{Touched}
use Rattle.haar.specs.Count.{touched_coefficients}
use Rattle.haar.specs.Cells.{pick, haar_cells}
use Rattle.haar.proofs.Numbers.{same_pow, one_coefficient, sixteen}
use Rattle.haar.proofs.Count.{coefficients_mem, coefficients_has}

-- the whole warehouse touches every coefficient inside it
all_touched : (n : ℕ) (s : Coefficient) → Inside n s → Touched n n 0 s
all_touched n (TileSum t k) i =
    let e : 16 ^ (t + 1) ≡ 2 ^ (4 * t + 4) = sixteen (t + 1) ∙ same_pow (4 * (t + 1)) (4 * t + 4) (omega arith) in
    div-eq_of_lt (⊎_elim
    (λ (lt : n < 4 * t + 4).
    let a : 2 ^ n ≤ 2 ^ (4 * t + 4) = pow_mono {i = n} {j = 4 * t + 4} (omega arith) in
    let z : k < 1 = lt_of_mul-lt-mul_right (16 ^ (t + 1)) (omega arith) in
    omega (arith, pow_pos (n - min (4 * t + 4) n)))
    (λ (le : 4 * t + 4 ≤ n).
    let q : 2 ^ n ≡ 2 ^ (n - min (4 * t + 4) n) * 2 ^ (4 * t + 4) = same_pow n (n - min (4 * t + 4) n + (4 * t + 4)) (omega arith) ∙ pow-add 2 (n - min (4 * t + 4) n) (4 * t + 4) in
    lt_of_mul-lt-mul_right (2 ^ (4 * t + 4)) (rw (← q, ← e) i.1))
    (cases_lt n (4 * t + 4))) ∙ sym (zero-div _)
all_touched n (Difference j k) i = div-eq_of_lt i.2 ∙ sym (zero-div _)

module _ (T n : ℕ) (f : ℕ → ℤ) (some-band : 1 ≤ T) (fits : n ≤ 4 * T) where
  picked : (ss : List Coefficient) → ((s : Coefficient) → Memᴰ s ss → Inside n s) → (s : Coefficient) → Inside n s → Memᴰ s ss → pick T n f ss (cell_number T s) ≡ value n f s
  picked [] all s i h = absurd (Memᴰ.not-nil h)
  picked (x ∷ ss) all s i h =
      ⊎_elim
      (λ (e : cell_number T x ≡ cell_number T s).
      cond-true (eqb (cell_number T x) (cell_number T s)) (value n f x) _ (eq-eqb _ _ e) ∙ ap (value n f) (one_coefficient T n x s some-band fits (all x (Memᴰ.head refl)) i e))
      (λ (ne : cell_number T x ≡ cell_number T s → ⊥).
      cond-false (eqb (cell_number T x) (cell_number T s)) (value n f x) _ (ne_eqb _ _ ne)
      ∙ picked ss (λ s h. all s (Memᴰ.tail h)) s i (⊎_elim (λ (q : s ≡ x). absurd (ne (ap (cell_number T) (sym q)))) (λ t. t) (Memᴰ.cases_cons h)))
      (cases_eq (cell_number T x) (cell_number T s))

  unpicked : (ss : List Coefficient) (c : ℕ) → ((s : Coefficient) → Memᴰ s ss → cell_number T s ≡ c → ⊥) → pick T n f ss c ≡ pos 0
  unpicked [] c none = refl
  unpicked (x ∷ ss) c none =
      cond-false (eqb (cell_number T x) c) (value n f x) _ (ne_eqb _ _ (none x (Memᴰ.head refl))) ∙ unpicked ss c (λ s h. none s (Memᴰ.tail h))

  pub cells_are : HaarCells T n f (haar_cells T n f)
  unfolding haar_cells
  cells_are =
      record {
        held = λ s i. picked (touched_coefficients n n 0) mem s i (coefficients_has T n n 0 some-band fits (omega arith) here s i (all_touched n s i));
        empty = λ c b none. unpicked (touched_coefficients n n 0) c (λ s h. none s (mem s h));
      }
    where
      here : 0 < 2 ^ (n - n)
      here = pow_pos (n - n)

      mem : (s : Coefficient) → Memᴰ s (touched_coefficients n n 0) → Inside n s
      mem s h = (coefficients_mem T n n 0 some-band fits (omega arith) here s h).0
