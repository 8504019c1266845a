-- Where the touched coefficients of a chunk stand: their tiles, and the coefficient of a cell.
use Rattle.std.proofs.Common.{◌≡◌, ℕ, zero, suc, ◌+◌, ◌-◌, ◌*◌, ◌/◌, ◌%◌, ◌^◌, ◌<◌, ◌≤◌, ◌↔◌, min, max, sym, refl, ap, ◌∙◌, subst, ⊎_elim, mul-le-mul_right, mod-lt, lt_of_mul-lt-mul_right, div-add-mod', div-one, sub-one, arith, pow_pos, pow_mono, pow-add, shr-shr, shr_lt}
use lib.Pow.{high}
use lib.Pow.{low as low_part}
use native.Mathlib.Nat.{two-pow-succ}
use Rattle.std.proofs.lemmas.Bool.{cases_lt, cases_eq}
use Rattle.haar.specs.declared.coefficient.Coefficient.{Coefficient}
use Rattle.haar.specs.declared.coefficient.Coefficient.TheVariants.{TileSum, Difference}
use Rattle.haar.specs.Tiles.{band, tile, slot, depth, tiles_before, cell_number, cell_count, Inside}
use Rattle.haar.specs.Count.{bands_in_use}
use Rattle.loads.specs.Reach.{Sits, Meets, Gap, first_met, first_cell}
use Rattle.haar.proofs.Numbers.{sixteen, same_pow, before_suc, before_rises, Placed, inside_placed, slot_bound}
use Rattle.haar.proofs.Places.{number_at, before_most}
use Rattle.haar.proofs.Ladder.{rising, find_step}
use Rattle.haar.proofs.Count.{index_inside, whole_inside}

pub sum_meets : (n m p t k l : ℕ) → l ≡ min (4 * t + 4) n → m ≤ n → p < 2 ^ (n - m) → t < bands_in_use n → (k / 2 ^ (m - l) ≡ p / 2 ^ (l - m)) ↔ Meets n m p (TileSum t k)
sum_meets n m p t k l e h b u =
    subst (λ x. (k / 2 ^ (m - x) ≡ p / 2 ^ (x - m)) ↔ Meets n m p (TileSum t k)) (sym e)
    (λ o. record { inside = whole_inside n t k u (index_inside n m p _ k h (omega arith) b o); touched = o }, λ me. me.touched)

pub diff_meets : (n m p j k : ℕ) → m ≤ n → p < 2 ^ (n - m) → 1 ≤ j → j ≤ n → (k / 2 ^ (m - j) ≡ p / 2 ^ (j - m)) ↔ Meets n m p (Difference j k)
diff_meets n m p j k h b a l = (λ o. record { inside = (a, l, index_inside n m p j k h l b o); touched = o }, λ me. me.touched)

-- the touched indices of a level, counted from the first
pub level_met : (n m p : ℕ) → m ≤ n → p < 2 ^ (n - m) → (j : ℕ) → 1 ≤ j → j ≤ n → (at : ℕ) → at < 2 ^ (m - j) → Meets n m p (Difference j (first_met m p j + at))
level_met n m p low inside j a l at h = (diff_meets n m p j _ low inside a l).0 (high (p / 2 ^ (j - m)) (m - j) h)

pub path_met : (n m p : ℕ) → m ≤ n → p < 2 ^ (n - m) → (j : ℕ) → m < j → j ≤ n → Meets n m p (Difference j (first_met m p j))
path_met n m p low inside j a l =
    let z : first_met m p j + 0 ≡ first_met m p j = omega arith in
    rw z at (level_met n m p low inside j (omega arith) l 0 (pow_pos (m - j)))

pub local_index : (m p j at : ℕ) → j ≤ m → at < 2 ^ (m - j) → at ≡ (first_met m p j + at) % 2 ^ (m - j)
local_index m p j at l h = sym (low_part (p / 2 ^ (j - m)) (m - j) h)

-- a slot's row by its bounds
pub row_of : (e h r : ℕ) → r < 2 ^ e → 2 ^ h ≤ 2 ^ e + r → 2 ^ e + r < 2 ^ suc h → e ≡ h
row_of e h r b lo hi =
    ⊎_elim (λ (lt : e < h). absurd (omega (arith, two-pow-succ e, pow_mono {i = suc e} {j = h} (omega arith))))
    (λ (ge : h ≤ e). ⊎_elim (λ (q : e ≡ h). q) (λ ne. absurd (omega (arith, pow_mono {i = suc h} {j = e} (omega arith)))) (cases_eq e h))
    (cases_lt e h)

-- an overlap, seen from a level L above
climb : (m p j k L : ℕ) → j ≤ L → k / 2 ^ (m - j) ≡ p / 2 ^ (j - m) → k / 2 ^ (L - j) / 2 ^ (m - L) ≡ p / 2 ^ (L - m)
climb m p j k L h e =
    let u : (L - j) + (m - L) ≡ (m - j) + (L - max m j) = omega arith in
    let v : L - m ≡ (j - m) + (L - max m j) = omega arith in
    shr-shr k (L - j) (m - L) ∙ ap (λ x. k / 2 ^ x) u ∙ sym (shr-shr k (m - j) (L - max m j)) ∙ ap (λ x. x / 2 ^ (L - max m j)) e ∙ shr-shr p (j - m) (L - max m j) ∙ ap (λ x. p / 2 ^ x) (sym v)

-- the tile of a touched coefficient meets the chunk
pub tile_met : (n m p : ℕ) (s : Coefficient) → Meets n m p s → tile s / 2 ^ (m - (4 * band s + 4)) ≡ p / 2 ^ (4 * band s + 4 - m)
tile_met n m p (Difference j k) h = climb m p j k (4 * ((j - 1) / 4) + 4) (omega (arith, h.inside)) h.touched
tile_met n m p (TileSum t k) h =
    ap (λ x. x / 2 ^ (m - (4 * t + 4))) (sym same) ∙ climb m p (min (4 * t + 4) n) k (4 * t + 4) (omega arith) h.touched
  where
    same : k / 2 ^ (4 * t + 4 - min (4 * t + 4) n) ≡ k
    same =
        ⊎_elim
        (λ (lt : n < 4 * t + 4).
        let a : 2 ^ n ≤ 2 ^ (4 * (t + 1)) = pow_mono {j = 4 * (t + 1)} (omega arith) in
        let z : k < 1 = lt_of_mul-lt-mul_right (16 ^ (t + 1)) (omega (arith, sixteen (t + 1), h.inside.1)) in
        let z : k ≡ 0 = omega arith in
        rw z (omega arith))
        (λ (le : 4 * t + 4 ≤ n). let q : 4 * t + 4 - min (4 * t + 4) n ≡ 0 = omega arith in ap (λ x. k / 2 ^ x) q ∙ div-one k)
        (cases_lt n (4 * t + 4))

-- between the first and the last tile
pub within : (x a q : ℕ) → x / 2 ^ a ≡ q → (q * 2 ^ a ≤ x) × (x < q * 2 ^ a + 2 ^ a)
within x a q e = let d = div-add-mod' x (2 ^ a) in let r = mod-lt x (pow_pos a) in let f = ap (λ y. y * 2 ^ a) e in (omega arith, omega arith)

-- the tiles of band t that meet the chunk are tiles of the store
pub tiles_fit : (T n m p t : ℕ) → t < T → n ≤ 4 * T → m ≤ n → p < 2 ^ (n - m) → p / 2 ^ (4 * t + 4 - m) * 2 ^ (m - (4 * t + 4)) + 2 ^ (m - (4 * t + 4)) ≤ 16 ^ (T - 1 - t)
tiles_fit T n m p t a b h l =
    let w : 2 ^ (n - m) ≤ 2 ^ (4 * T - m) = pow_mono {i = n - m} {j = 4 * T - m} (omega arith) in
    let e : 4 * T - m ≡ (4 * T - max (4 * t + 4) m) + (4 * t + 4 - m) = omega arith in
    let lt : p < 2 ^ ((4 * T - max (4 * t + 4) m) + (4 * t + 4 - m)) = rw (← e) (omega arith) in
    let q = shr_lt (4 * T - max (4 * t + 4) m) (4 * t + 4 - m) lt in
    let f : 2 ^ (4 * (T - 1 - t)) ≡ 2 ^ (4 * T - max (4 * t + 4) m) * 2 ^ (m - (4 * t + 4)) = same_pow _ (4 * T - max (4 * t + 4) m + (m - (4 * t + 4))) (omega arith) ∙ pow-add 2 (4 * T - max (4 * t + 4) m) (m - (4 * t + 4)) in
    omega (arith, sixteen (T - 1 - t), mul-le-mul_right (2 ^ (m - (4 * t + 4))) q)

-- the tiles before a band and in it, of at most five bands
pub before_next : (T t : ℕ) → t < T → tiles_before (T - t) ≡ tiles_before (T - 1 - t) + 16 ^ (T - 1 - t)
before_next T t h = ap tiles_before (omega arith) ∙ before_suc (T - 1 - t)

-- the index of a chunk in a tree of at most five bands
pub index_bound : (T n m p : ℕ) → T ≤ 5 → n ≤ 4 * T → p < 2 ^ (n - m) → p < 2 ^ 20
index_bound T n m p few held inside = omega (arith, pow_mono {i = n - m} {j = 20} (omega arith))

-- the first tile's index and the tiles from it on, as the code's shifts make it
pub first_fits : (T n m p t a b : ℕ) → t < T → T ≤ 5 → n ≤ 4 * T → m ≤ n → p < 2 ^ (n - m) → a ≡ 4 * t + 4 - m → b ≡ m - (4 * t + 4) → (p / 2 ^ a * 2 ^ b + 2 ^ b ≤ 16 ^ (T - 1 - t)) × (16 ^ (T - 1 - t) ≤ 65536)
first_fits T n m p t a b h u v w x e f = (
  rw (e, f) (tiles_fit T n m p t h v w x),
  omega (arith, sixteen (T - 1 - t), pow_mono {i = 4 * (T - 1 - t)} {j = 16} (omega arith)),
)

slot_lt : (n m p : ℕ) (s : Coefficient) → Meets n m p s → slot s < 16
slot_lt n m p (TileSum t k) h = omega arith
slot_lt n m p (Difference j k) h = slot_bound j k h.inside.0

-- a higher band has lower cells
below_next : (T n m p : ℕ) (s : Coefficient) → 1 ≤ T → n ≤ 4 * T → Meets n m p s → (band s < T) × (cell_number T s < 16 * tiles_before (T - band s))
below_next zero n m p s a h me = absurd (omega arith)
below_next (suc top) n m p s a h me =
    let q = placed top s (inside_placed top n s h me.inside) in
    let b : band s < suc top = omega arith in
    let r = before_next (suc top) (band s) b in
    let e = number_at (suc top) s a in
    let l = slot_lt n m p s me in
    let f : 16 ^ (suc top - 1 - band s) ≡ 16 ^ (top - band s) = ap (λ x. 16 ^ (x - band s)) (sub-one (suc top)) in
    (b, omega arith)
  where
    placed : (top : ℕ) (s : Coefficient) → Placed top s → (band s ≤ top) × (tile s < 16 ^ (top - band s))
    placed top (TileSum t k) p = (p.0, p.1)
    placed top (Difference j k) p = (p.0, p.1)

module _ (T n m p : ℕ) (some : 1 ≤ T) (held : n ≤ 4 * T) (low : m ≤ n) (inside : p < 2 ^ (n - m)) where
  -- the band of a touched coefficient, by its cell
  pub in_band : (t : ℕ) (s : Coefficient) → t < T → Meets n m p s → 16 * tiles_before (T - 1 - t) ≤ cell_number T s → cell_number T s < 16 * tiles_before (T - t) → band s ≡ t
  in_band t s h me lo hi =
      let x = below_next T n m p s some held me in
      let e = number_at T s some in
      ⊎_elim
      (λ (lt : band s < t). absurd (omega (arith, rising tiles_before before_rises (T - t) (T - 1 - band s) (omega arith))))
      (λ (ge : t ≤ band s).
      ⊎_elim (λ (q : band s ≡ t). q)
      (λ ne. absurd (omega (arith, x.1, rising tiles_before before_rises (T - band s) (T - 1 - t) (omega arith))))
      (cases_eq (band s) t))
      (cases_lt (band s) t)

  -- its cell lies among those of the tiles that meet the chunk
  in_span : (t : ℕ) (s : Coefficient) → Meets n m p s → band s ≡ t → (first_cell T m p t ≤ cell_number T s) × (cell_number T s < first_cell T m p t + 16 * 2 ^ (m - (4 * t + 4)))
  in_span t s me b =
      let e = number_at T s some in
      let f = ap (λ x. tiles_before (T - 1 - x)) b in
      let w = within (tile s) (m - (4 * t + 4)) (p / 2 ^ (4 * t + 4 - m)) (subst (λ x. tile s / 2 ^ (m - (4 * x + 4)) ≡ p / 2 ^ (4 * x + 4 - m)) b (tile_met n m p s me)) in
      let l = slot_lt n m p s me in
      (omega arith, omega arith)

  pub span_most : (t : ℕ) → t < T → first_cell T m p t + 16 * 2 ^ (m - (4 * t + 4)) ≤ 16 * tiles_before (T - t)
  span_most t h = omega (arith, tiles_fit T n m p t h held low inside, before_next T t h)

  pub span_bound : (t : ℕ) → t < T → T ≤ 5 → first_cell T m p t + 16 * 2 ^ (m - (4 * t + 4)) ≤ 1118480
  span_bound t h few = omega (arith, span_most t h, before_most (T - t) (omega arith))

  -- no touched cell in the bands that are not in use, nor in a band before and after the tiles that meet the chunk
  pub gap_top : Gap T n m p 0 (16 * tiles_before (T - bands_in_use n))
  gap_top s me lo hi =
      let e = number_at T s some in
      absurd (omega (arith, rising tiles_before before_rises (T - bands_in_use n) (T - 1 - band s) (omega (arith, used s me.inside))))
    where
      used : (s : Coefficient) → Inside n s → band s < bands_in_use n
      used (TileSum t k) i = omega (arith, i.0)
      used (Difference j k) i = omega (arith, i.0, i.1)

  pub gap_before : (t : ℕ) → t < T → Gap T n m p (16 * tiles_before (T - 1 - t)) (first_cell T m p t)
  gap_before t h s me lo hi = let q = in_span t s me (in_band t s h me lo (omega (arith, span_most t h))) in omega arith

  pub gap_after : (t : ℕ) → t < T → Gap T n m p (first_cell T m p t + 16 * 2 ^ (m - (4 * t + 4))) (16 * tiles_before (T - t))
  gap_after t h s me lo hi = let q = in_span t s me (in_band t s h me (omega arith) hi) in omega arith

  pub span_count : (t : ℕ) → 16 * tiles_before (T - t) ≤ cell_count T
  span_count t = omega (arith, rising tiles_before before_rises (T - t) T (omega arith))

  -- where a tile lies inside the chunk, each of its slots is touched
  module _ (t at : ℕ) (whole : 4 * t + 4 ≤ m) (few : at < 16 * 2 ^ (m - (4 * t + 4))) where
    abbrev pub k : ℕ
    k = first_met m p (4 * t + 4) + at / 16

    over : k / 2 ^ (m - (4 * t + 4)) ≡ p
    over =
        let z : 2 ^ (4 * t + 4 - m) ≡ 1 = same_pow (4 * t + 4 - m) 0 (omega arith) in
        let e : p / 2 ^ (4 * t + 4 - m) ≡ p = rw z (div-one p) in
        let f : first_met m p (4 * t + 4) ≡ p * 2 ^ (m - (4 * t + 4)) = ap (λ x. x * 2 ^ (m - (4 * t + 4))) e in
        ap (λ x. x / 2 ^ (m - (4 * t + 4))) (ap (λ x. x + at / 16) f) ∙ high p (m - (4 * t + 4)) (omega arith)

    -- a level of the tile: its index, from the tile's, is touched
    down : (h r : ℕ) → h ≤ 3 → r < 2 ^ h → Meets n m p (Difference (4 * t + 4 - h) (k * 2 ^ h + r))
    down h r l b =
        let e : m - (4 * t + 4 - h) ≡ h + (m - (4 * t + 4)) = omega arith in
        let z : p / 2 ^ (4 * t + 4 - h - m) ≡ p = rw (same_pow (4 * t + 4 - h - m) 0 (omega arith)) (div-one p) in
        (diff_meets n m p (4 * t + 4 - h) _ low inside (omega arith) (omega arith)).0
        (ap (λ x. (k * 2 ^ h + r) / 2 ^ x) e ∙ sym (shr-shr (k * 2 ^ h + r) h (m - (4 * t + 4))) ∙ ap (λ x. x / 2 ^ (m - (4 * t + 4))) (high k h b) ∙ over ∙ sym z)

    pub tile_cell : t < T → (s : Coefficient) × Meets n m p s × (cell_number T s ≡ first_cell T m p t + at) × Sits s t k (at % 16)
    tile_cell h =
        ⊎_elim (λ (a : 0 < at % 16). difference (find_step (λ x. 2 ^ x) (λ h. pow_mono (omega arith)) 3 (at % 16) a (omega arith)))
        (λ (z : at % 16 ≤ 0).
        let si : Sits (TileSum t k) t k (at % 16) = record { band = refl; tile = refl; slot = omega arith } in
        let q : p / 2 ^ (4 * t + 4 - m) ≡ p = rw (same_pow (4 * t + 4 - m) 0 (omega arith)) (div-one p) in
        (TileSum t k, (sum_meets n m p t k (4 * t + 4) (omega arith) low inside (omega arith)).0 (over ∙ sym q), stands (TileSum t k) si, si))
        (cases_lt 0 (at % 16))
      where
        stands : (s : Coefficient) → Sits s t k (at % 16) → cell_number T s ≡ first_cell T m p t + at
        stands s si = number_at T s some ∙ rw (si.band, si.tile, si.slot) (omega arith)

        difference : (h : ℕ) × (h ≤ 3) × (2 ^ h ≤ at % 16) × (at % 16 < 2 ^ suc h) → (s : Coefficient) × Meets n m p s × (cell_number T s ≡ first_cell T m p t + at) × Sits s t k (at % 16)
        difference (h, l, lo, hi) =
            let r = at % 16 - 2 ^ h in
            let b : r < 2 ^ h = omega (arith, two-pow-succ h) in
            let d : depth (4 * t + 4 - h) ≡ h = omega arith in
            let si : Sits (Difference (4 * t + 4 - h) (k * 2 ^ h + r)) t k (at % 16) = record {
              band = omega arith;
              tile = rw d (high k h b);
              slot = rw d (ap (λ x. 2 ^ h + x) (low_part k h b) ∙ omega arith);
            } in
            (Difference (4 * t + 4 - h) (k * 2 ^ h + r), down h r l b, stands _ si, si)
