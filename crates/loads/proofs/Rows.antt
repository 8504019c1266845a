-- The touched cells of a band whose tile lies over the chunk, level by level.
use Rattle.std.proofs.Common.{◌≡◌, ℕ, suc, ◌+◌, ◌-◌, ◌*◌, ◌/◌, ◌%◌, ◌^◌, ◌<◌, ◌≤◌, ◌⊎◌, min, sym, refl, ap, ◌∙◌, subst, inl, inr, ⊎_elim, mod-lt, div-add-mod', div-one, arith, pow_pos, pow_mono}
use native.Mathlib.Nat.{two-pow-succ, div-eq_of_lt}
use Rattle.std.proofs.lemmas.Bool.{cases_lt}
use Rattle.haar.specs.declared.coefficient.Coefficient.{Coefficient}
use Rattle.haar.specs.declared.coefficient.Coefficient.TheVariants.{TileSum, Difference}
use Rattle.haar.specs.Tiles.{band, tile, slot, depth, tiles_before, cell_number, cell_count}
use Rattle.haar.specs.Count.{bands_in_use}
use Rattle.loads.specs.Reach.{Meets, Gap, first_met, first_cell, row_cell}
use Rattle.haar.proofs.Numbers.{same_pow}
use Rattle.haar.proofs.Places.{number_at}
use Rattle.loads.proofs.Meeting.{within, tile_met, sum_meets, level_met, row_of, in_band, span_most, span_bound, span_count}

module _ (T n m p : ℕ) (some : 1 ≤ T) (held : n ≤ 4 * T) (low : m ≤ n) (inside : p < 2 ^ (n - m)) (t : ℕ) (own : t < T) (short : m < 4 * t + 4) where
  one : 2 ^ (m - (4 * t + 4)) ≡ 1
  one = same_pow (m - (4 * t + 4)) 0 (omega arith)

  one_tile : first_met m p (4 * t + 4) ≡ p / 2 ^ (4 * t + 4 - m)
  one_tile = ap (λ x. p / 2 ^ (4 * t + 4 - m) * x) one ∙ omega arith

  pub whole_slot : t < bands_in_use n → Meets n m p (TileSum t (first_met m p (4 * t + 4))) × (cell_number T (TileSum t (first_met m p (4 * t + 4))) ≡ first_cell T m p t)
  whole_slot u = ((sum_meets n m p t _ (min (4 * t + 4) n) refl low inside u).0 here, number_at T (TileSum t (first_met m p (4 * t + 4))) some ∙ omega arith)
    where
      here : first_met m p (4 * t + 4) / 2 ^ (m - min (4 * t + 4) n) ≡ p / 2 ^ (min (4 * t + 4) n - m)
      here =
          let z : 2 ^ (m - min (4 * t + 4) n) ≡ 1 = same_pow (m - min (4 * t + 4) n) 0 (omega arith) in
          rw (z, div-one) (one_tile ∙ highest)
        where
          highest : p / 2 ^ (4 * t + 4 - m) ≡ p / 2 ^ (min (4 * t + 4) n - m)
          highest =
              ⊎_elim (λ (lt : n < 4 * t + 4).
              let a : min (4 * t + 4) n - m ≡ n - m = omega arith in
              let b : 2 ^ (n - m) ≤ 2 ^ (4 * t + 4 - m) = pow_mono (omega arith) in
              div-eq_of_lt (omega (arith, b)) ∙ sym (ap (λ x. p / 2 ^ x) a ∙ div-eq_of_lt inside))
              (λ le. ap (λ x. p / 2 ^ x) (omega arith))
              (cases_lt n (4 * t + 4))

  -- a touched coefficient of the band lies in the one tile
  in_tile : (s : Coefficient) → Meets n m p s → band s ≡ t → cell_number T s ≡ first_cell T m p t + slot s
  in_tile s me b =
      let e = number_at T s some in
      let f = ap (λ x. tiles_before (T - 1 - x)) b in
      let w : tile s / 2 ^ (m - (4 * t + 4)) ≡ p / 2 ^ (4 * t + 4 - m) = subst (λ x. tile s / 2 ^ (m - (4 * x + 4)) ≡ p / 2 ^ (4 * x + 4 - m)) b (tile_met n m p s me) in
      let v : tile s ≡ p / 2 ^ (4 * t + 4 - m) = sym (div-one (tile s)) ∙ ap (λ x. tile s / x) (sym one) ∙ w in
      omega (arith, one_tile)

  -- level j of the tile
  module _ (j : ℕ) (above : 4 * t < j) (most : j ≤ 4 * t + 4) (held_level : j ≤ n) where
    row_depth : depth j ≡ 4 * t + 4 - j
    row_depth = omega arith

    row_band : (j - 1) / 4 ≡ t
    row_band = omega arith

    touched_at : (k : ℕ) → Meets n m p (Difference j k) → (first_met m p j ≤ k) × (k < first_met m p j + 2 ^ (m - j)) × (cell_number T (Difference j k) ≡ row_cell T m p t j + k % 2 ^ (4 * t + 4 - j)) × (k ≡ first_met m p (4 * t + 4) * 2 ^ (4 * t + 4 - j) + k % 2 ^ (4 * t + 4 - j))
    touched_at k me =
        let w = within k (m - j) (p / 2 ^ (j - m)) me.touched in
        let c = in_tile (Difference j k) me row_band in
        let d = ap (λ x. 2 ^ x + k % 2 ^ x) row_depth in
        let q : k / 2 ^ (4 * t + 4 - j) ≡ first_met m p (4 * t + 4) =
        ap (λ x. k / 2 ^ x) (sym row_depth) ∙ sym (div-one _) ∙ ap (λ x. k / 2 ^ depth j / x) (sym one) ∙ subst (λ x. k / 2 ^ depth j / 2 ^ (m - (4 * x + 4)) ≡ p / 2 ^ (4 * x + 4 - m)) row_band (tile_met n m p (Difference j k) me) ∙ sym one_tile in
        (w.0, w.1, omega arith, sym (ap (λ x. x * 2 ^ (4 * t + 4 - j) + k % 2 ^ (4 * t + 4 - j)) (sym q) ∙ div-add-mod' k (2 ^ (4 * t + 4 - j))))

    row_meets : (at : ℕ) → at < 2 ^ (m - j) → Meets n m p (Difference j (first_met m p j + at))
    row_meets = level_met n m p low inside j (omega arith) held_level

    pub row_slot : (at : ℕ) → at < 2 ^ (m - j) → Meets n m p (Difference j (first_met m p j + at)) × (cell_number T (Difference j (first_met m p j + at)) ≡ row_cell T m p t j + first_met m p j % 2 ^ (4 * t + 4 - j) + at)
    row_slot at l =
        let z : first_met m p j + 0 ≡ first_met m p j = omega arith in
        let a = touched_at (first_met m p j) (rw z at (row_meets 0 (pow_pos (m - j)))) in
        let b = touched_at (first_met m p j + at) (row_meets at l) in
        (row_meets at l, omega (arith, a.3, b.2, b.3))

    -- a touched coefficient with a slot of the level's row is of that level
    same_level : (s : Coefficient) → Meets n m p s → band s ≡ t → 2 ^ (4 * t + 4 - j) ≤ slot s → slot s < 2 ^ (4 * t + 5 - j) → (k : ℕ) × (s ≡ Difference j k)
    same_level (TileSum t' k) me b lo hi = absurd (omega (arith, pow_pos (4 * t + 4 - j)))
    same_level (Difference j' k) me b lo hi =
        let w : 4 * t + 5 - j ≡ suc (4 * t + 4 - j) = omega arith in
        let e = row_of (depth j') (4 * t + 4 - j) (k % 2 ^ depth j') (mod-lt k (pow_pos (depth j'))) lo (rw w at hi) in
        (k, ap (λ x. Difference x k) (omega arith))

    row_most : row_cell T m p t (j - 1) ≡ first_cell T m p t + 2 ^ (4 * t + 5 - j)
    row_most = ap (λ x. first_cell T m p t + 2 ^ x) (omega arith)

    row_last : 2 ^ (4 * t + 5 - j) ≤ 16
    row_last = pow_mono {i = 4 * t + 5 - j} {j = 4} (omega arith)

    row_half : 2 ^ (4 * t + 5 - j) ≡ 2 * 2 ^ (4 * t + 4 - j)
    row_half = ap (λ x. 2 ^ x) (omega arith) ∙ two-pow-succ (4 * t + 4 - j) ∙ omega arith

    -- a touched coefficient with a cell of the row, by its index
    of_row : (s : Coefficient) → Meets n m p s → row_cell T m p t j ≤ cell_number T s → cell_number T s < row_cell T m p t (j - 1) → (row_cell T m p t j + first_met m p j % 2 ^ (4 * t + 4 - j) ≤ cell_number T s) × (cell_number T s < row_cell T m p t j + first_met m p j % 2 ^ (4 * t + 4 - j) + 2 ^ (m - j))
    of_row s me lo hi =
        let b = in_band T n m p some held low inside t s own me (omega (arith)) (omega (arith, row_most, row_last, span_most T n m p some held low inside t own, one)) in
        let c = in_tile s me b in
        let (k, e) = same_level s me b (omega arith) (omega (arith, row_most)) in
        let x = touched_at k (rw e at me) in
        let a = row_slot 0 (pow_pos (m - j)) in
        let y = touched_at (first_met m p j + 0) a.0 in
        let f = ap (cell_number T) e in
        (omega (arith, a.1, x.0, x.1, x.2, x.3, y.2, y.3), omega (arith, a.1, x.0, x.1, x.2, x.3, y.2, y.3))

    pub row_before : Gap T n m p (row_cell T m p t j) (row_cell T m p t j + first_met m p j % 2 ^ (4 * t + 4 - j))
    row_before s me lo hi = let q = of_row s me lo (omega (arith, row_most, row_half, mod-lt (first_met m p j) (pow_pos (4 * t + 4 - j)))) in omega arith

    pub row_after : Gap T n m p (row_cell T m p t j + first_met m p j % 2 ^ (4 * t + 4 - j) + 2 ^ (m - j)) (row_cell T m p t (j - 1))
    row_after s me lo hi = let q = of_row s me (omega arith) hi in omega arith

    -- the row's cells end before the next row
    pub row_fits : row_cell T m p t j + first_met m p j % 2 ^ (4 * t + 4 - j) + 2 ^ (m - j) ≤ row_cell T m p t (j - 1)
    row_fits =
        let e : 2 ^ (m - j) - 1 < 2 ^ (m - j) = omega (arith, pow_pos (m - j)) in
        let a = row_slot (2 ^ (m - j) - 1) e in
        let y = touched_at _ a.0 in
        omega (arith, a.1, y.2, e, mod-lt (first_met m p j + (2 ^ (m - j) - 1)) (pow_pos (4 * t + 4 - j)), row_half, row_most)

    pub path_index : m < j → p / 2 ^ (j - m) ≡ first_met m p j
    path_index h = let z : 2 ^ (m - j) ≡ 1 = same_pow (m - j) 0 (omega arith) in sym (ap (λ x. p / 2 ^ (j - m) * x) z ∙ omega arith)

    pub row_index : j ≤ m → T ≤ 5 → (p * 2 ^ (m - j) ≡ first_met m p j) × (first_met m p j < 2 ^ 20)
    row_index h few =
        let z : 2 ^ (j - m) ≡ 1 = same_pow (j - m) 0 (omega arith) in
        let s = (row_meets 0 (pow_pos (m - j))).inside in
        (ap (λ x. x * 2 ^ (m - j)) (sym (ap (λ x. p / x) z ∙ div-one p)), omega (arith, s, pow_mono {i = n - j} {j = 20} (omega arith)))

    -- the cells that the row's touched cells end before are those of five bands at most
    pub row_bound : T ≤ 5 → row_cell T m p t j + first_met m p j % 2 ^ (4 * t + 4 - j) + 2 ^ (m - j) ≤ 1118480
    row_bound few = omega (arith, row_fits, row_most, row_last, one, span_bound T n m p some held low inside t own few)

    pub row_count : row_cell T m p t (j - 1) ≤ cell_count T
    row_count = omega (arith, row_most, row_last, span_most T n m p some held low inside t own, span_count T n m p some held low inside t, one)

  high_slot : (s : Coefficient) → Meets n m p s → band s ≡ t → (slot s ≡ 0) ⊎ (2 ^ (4 * t + 4 - min n (4 * t + 4)) ≤ slot s)
  high_slot (TileSum t' k) me b = inl refl
  high_slot (Difference j k) me b =
      let h = me.inside in
      let w : 2 ^ (4 * t + 4 - min n (4 * t + 4)) ≤ 2 ^ depth j = pow_mono (omega arith) in
      inr (omega arith)

  pub rows_fit : t < bands_in_use n → (first_cell T m p t + 1 ≤ row_cell T m p t (min n (4 * t + 4))) × (row_cell T m p t (min n (4 * t + 4)) ≤ cell_count T)
  rows_fit used =
      let i : 2 ^ (4 * t + 4 - min n (4 * t + 4)) ≤ 2 ^ 4 = pow_mono {i = 4 * t + 4 - min n (4 * t + 4)} {j = 4} (omega arith) in
      (omega (arith, pow_pos (4 * t + 4 - min n (4 * t + 4))), omega (arith, i, span_most T n m p some held low inside t own, span_count T n m p some held low inside t, one))

  pub gap_rows : t < bands_in_use n → Gap T n m p (first_cell T m p t + 1) (row_cell T m p t (min n (4 * t + 4)))
  gap_rows used s me lo hi =
      let i : 2 ^ (4 * t + 4 - min n (4 * t + 4)) ≤ 2 ^ 4 = pow_mono {i = 4 * t + 4 - min n (4 * t + 4)} {j = 4} (omega arith) in
      let b : band s ≡ t = in_band T n m p some held low inside t s own me (omega arith) (omega (arith, i, span_most T n m p some held low inside t own, one)) in
      let e = in_tile s me b in
      ⊎_elim (λ z. omega arith) (λ h. omega arith) (high_slot s me b)

  -- past the lowest level
  pub rows_end : row_cell T m p t (4 * t) ≡ first_cell T m p t + 16 * 2 ^ (m - (4 * t + 4))
  rows_end =
      let e : 2 ^ (4 * t + 4 - 4 * t) ≡ 2 ^ 4 = same_pow (4 * t + 4 - 4 * t) 4 (omega arith) in
      omega (arith, e, one)
