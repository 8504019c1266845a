-- Where the differences of a tile lie in the buffer of a chunk that holds it.
use Rattle.std.proofs.Common.{◌≡◌, ℕ, zero, suc, ◌+◌, ◌-◌, ◌*◌, ◌/◌, ◌%◌, ◌^◌, ◌<◌, ◌≤◌, List, [], ◌∷◌, slice_index_or, sym, refl, ap, ◌∙◌, subst, ⊎_elim, arith, mul-le-mul_right, pow_mono, pow-add}
use Rattle.std.proofs.lemmas.Bool.{cases_eq}
use native.Mathlib.Nat.{two-pow-succ}
use Rattle.haar.proofs.Ladder.{find_step}
use Rattle.loads.proofs.Shares.{place_in}

-- the table of the slots, in sixteenths of the tile
abbrev pub table : List ℕ
table = 0 ∷ 8 ∷ 4 ∷ 12 ∷ 2 ∷ 6 ∷ 10 ∷ 14 ∷ 1 ∷ 3 ∷ 5 ∷ 7 ∷ 9 ∷ 11 ∷ 13 ∷ 15 ∷ []

abbrev All : (ℕ → Type 0) → ℕ → Type 0
All P zero = Unit {0}
All P (suc n) = P n × All P n

each : (P : ℕ → Type 0) (n : ℕ) → All P n → (k : ℕ) → k < n → P k
each P zero a k h = absurd (omega arith)
each P (suc n) a k h = ⊎_elim (λ (e : n ≡ k). subst P e a.0) (λ ne. each P n a.1 k (omega arith)) (cases_eq n k)

pub places : (h : ℕ) → h ≤ 3 → (r : ℕ) → r < 2 ^ h → slice_index_or table (2 ^ h + r) 0 ≡ r * 2 ^ (4 - h) + 2 ^ (3 - h)
places h l = each (λ h. (r : ℕ) → r < 2 ^ h → slice_index_or table (2 ^ h + r) 0 ≡ r * 2 ^ (4 - h) + 2 ^ (3 - h)) 4 (row3, (row2, (row1, (row0, tt)))) h (omega arith)
  where
    row0 : (r : ℕ) → r < 1 → slice_index_or table (1 + r) 0 ≡ r * 16 + 8
    row0 = each (λ r. slice_index_or table (1 + r) 0 ≡ r * 16 + 8) 1 (refl, tt)

    row1 : (r : ℕ) → r < 2 → slice_index_or table (2 + r) 0 ≡ r * 8 + 4
    row1 = each (λ r. slice_index_or table (2 + r) 0 ≡ r * 8 + 4) 2 (refl, (refl, tt))

    row2 : (r : ℕ) → r < 4 → slice_index_or table (4 + r) 0 ≡ r * 4 + 2
    row2 = each (λ r. slice_index_or table (4 + r) 0 ≡ r * 4 + 2) 4 (refl, (refl, (refl, (refl, tt))))

    row3 : (r : ℕ) → r < 8 → slice_index_or table (8 + r) 0 ≡ r * 2 + 1
    row3 = each (λ r. slice_index_or table (8 + r) 0 ≡ r * 2 + 1) 8 (refl, (refl, (refl, (refl, (refl, (refl, (refl, (refl, tt))))))))

pub places_few : (at : ℕ) → at < 16 → slice_index_or table at 0 ≤ 15
places_few = each (λ at. slice_index_or table at 0 ≤ 15) 16 (omega arith, (omega arith, (omega arith, (omega arith, (omega arith, (omega arith, (omega arith, (omega arith, (omega arith, (omega arith, (omega arith, (omega arith, (omega arith, (omega arith, (omega arith, (omega arith, tt))))))))))))))))

-- the place of the difference that a slot holds, 2^(4t) for each sixteenth
pub placed : (q r h t : ℕ) → h ≤ 3 → (16 * q + (r * 2 ^ (4 - h) + 2 ^ (3 - h))) * 2 ^ (4 * t) ≡ (q * 2 ^ h + r) * 2 ^ (4 * t + 4 - h) + 2 ^ (4 * t + 4 - h - 1)
placed q r h t l = each (λ h. (16 * q + (r * 2 ^ (4 - h) + 2 ^ (3 - h))) * 2 ^ (4 * t) ≡ (q * 2 ^ h + r) * 2 ^ (4 * t + 4 - h) + 2 ^ (4 * t + 4 - h - 1)) 4 (p3, (p2, (p1, (p0, tt)))) h (omega arith)
  where
    power : (k a : ℕ) → a ≡ k + 4 * t → 2 ^ a ≡ 2 ^ k * 2 ^ (4 * t)
    power k a e = ap (λ x. 2 ^ x) e ∙ pow-add 2 k (4 * t)

    p0 : (16 * q + (r * 16 + 8)) * 2 ^ (4 * t) ≡ (q * 1 + r) * 2 ^ (4 * t + 4 - 0) + 2 ^ (4 * t + 4 - 0 - 1)
    p0 = omega (arith, ap (λ x. (q * 1 + r) * x) (power 4 (4 * t + 4 - 0) (omega arith)), power 3 (4 * t + 4 - 0 - 1) (omega arith))

    p1 : (16 * q + (r * 8 + 4)) * 2 ^ (4 * t) ≡ (q * 2 + r) * 2 ^ (4 * t + 4 - 1) + 2 ^ (4 * t + 4 - 1 - 1)
    p1 = omega (arith, ap (λ x. (q * 2 + r) * x) (power 3 (4 * t + 4 - 1) (omega arith)), power 2 (4 * t + 4 - 1 - 1) (omega arith))

    p2 : (16 * q + (r * 4 + 2)) * 2 ^ (4 * t) ≡ (q * 4 + r) * 2 ^ (4 * t + 4 - 2) + 2 ^ (4 * t + 4 - 2 - 1)
    p2 = omega (arith, ap (λ x. (q * 4 + r) * x) (power 2 (4 * t + 4 - 2) (omega arith)), power 1 (4 * t + 4 - 2 - 1) (omega arith))

    p3 : (16 * q + (r * 2 + 1)) * 2 ^ (4 * t) ≡ (q * 8 + r) * 2 ^ (4 * t + 4 - 3) + 2 ^ (4 * t + 4 - 3 - 1)
    p3 = omega (arith, ap (λ x. (q * 8 + r) * x) (power 1 (4 * t + 4 - 3) (omega arith)), power 0 (4 * t + 4 - 3 - 1) (omega arith))

-- slots of tiles inside the chunk, counted from its first tile in the band
module _ (m t at : ℕ) (whole : 4 * t + 4 ≤ m) (few : at < 16 * 2 ^ (m - (4 * t + 4))) (h : ℕ) (l : h ≤ 3) where
  -- the index of a slot's difference, counted from the chunk's first
  pub row_below : at % 16 < 2 * 2 ^ h → at / 16 * 2 ^ h + at % 16 - 2 ^ h < 2 ^ (m - (4 * t + 4 - h))
  row_below hi =
      let b : at / 16 < 2 ^ (m - (4 * t + 4)) = omega arith in
      let w : 2 ^ (m - (4 * t + 4 - h)) ≡ 2 ^ (m - (4 * t + 4)) * 2 ^ h = ap (λ x. 2 ^ x) (omega arith) ∙ pow-add 2 (m - (4 * t + 4)) h in
      omega (arith, w, mul-le-mul_right (2 ^ h) b, hi)

  pub tile_place : 2 ^ h ≤ at % 16 → at % 16 < 2 * 2 ^ h → (16 * (at / 16) + slice_index_or table (at % 16) 0) * 2 ^ (4 * t) ≡ (at / 16 * 2 ^ h + at % 16 - 2 ^ h) * 2 ^ (4 * t + 4 - h) + 2 ^ (4 * t + 4 - h - 1)
  tile_place lo hi =
      let r = at % 16 - 2 ^ h in
      let e : 2 ^ h + r ≡ at % 16 = omega arith in
      let k : at / 16 * 2 ^ h + r ≡ at / 16 * 2 ^ h + at % 16 - 2 ^ h = omega arith in
      ap (λ x. (16 * (at / 16) + x) * 2 ^ (4 * t)) (ap (λ x. slice_index_or table x 0) (sym e) ∙ places h l r (omega arith)) ∙ placed (at / 16) r h t l ∙ ap (λ x. x * 2 ^ (4 * t + 4 - h) + 2 ^ (4 * t + 4 - h - 1)) k

  pub tile_below : 2 ^ h ≤ at % 16 → at % 16 < 2 * 2 ^ h → (16 * (at / 16) + slice_index_or table (at % 16) 0) * 2 ^ (4 * t) < 2 ^ m
  tile_below lo hi = rw (tile_place lo hi) (place_in m (4 * t + 4 - h) _ (omega arith) (omega arith) (row_below hi))

-- the row of a slot
pub slot_row : (at : ℕ) → (at % 16 ≡ 0 → ⊥) → (h : ℕ) × (h ≤ 3) × (2 ^ h ≤ at % 16) × (at % 16 < 2 * 2 ^ h)
slot_row at some =
    let (h, l, lo, hi) = find_step (λ x. 2 ^ x) (λ h. pow_mono (omega arith)) 3 (at % 16) (omega (arith, some)) (omega arith) in
    (h, l, lo, omega (arith, hi, two-pow-succ h))

pub place_below : (m t at : ℕ) → 4 * t + 4 ≤ m → at < 16 * 2 ^ (m - (4 * t + 4)) → (at % 16 ≡ 0 → ⊥) → m ≤ 12 → (16 * (at / 16) + slice_index_or table (at % 16) 0) * 2 ^ (4 * t) < 2 ^ m × (2 ^ m ≤ 4096)
place_below m t at whole few some short = let (h, l, lo, hi) = slot_row at some in (tile_below m t at whole few h l lo hi, pow_mono {i = m} {j = 12} short)
