-- The cell of a coefficient from its band, tile and slot, as the code works it out.
use Rattle.std.proofs.Common.{◌≡◌, ℕ, zero, suc, ◌+◌, ◌-◌, ◌*◌, ◌/◌, ◌%◌, ◌^◌, ◌<◌, ◌≤◌, ◌↔◌, bit_and, refl, sym, ap, ◌∙◌, subst, ⊎_elim, sub-one, mod-lt, arith, pow_pos, pow_mono}
use native.Mathlib.Nat.{two-pow-succ}
use Rattle.std.specs.Int.Count.{count_leading_zeros}
use Rattle.std.proofs.lemmas.Bool.{cases_lt}
use Rattle.std.proofs.lemmas.Nat.{leading_length, and_mask}
use Rattle.haar.specs.declared.coefficient.Coefficient.{Coefficient}
use Rattle.haar.specs.declared.coefficient.Coefficient.TheVariants.{TileSum, Difference}
use Rattle.haar.specs.Tiles.{band, tile, slot, depth, tiles_before, cell_number, Inside}
use Rattle.haar.specs.Places.{InTree}
use Rattle.haar.proofs.Ladder.{rising}
use Rattle.haar.proofs.Numbers.{before_rises, before_suc, inside_placed}

-- the bits of a number of 32 bits
pub bits_enough : (k d m : ℕ) → k < 2 ^ 32 → m ≡ 32 - count_leading_zeros 32 k → (m ≤ d) ↔ (k < 2 ^ d)
bits_enough k d m wide e = of (leading_length 32 k wide)
  where
    of : (b : ℕ) × (count_leading_zeros 32 k + b ≡ 32) × (k < 2 ^ b) × (2 ^ b ≤ 2 * k + 1) → (m ≤ d) ↔ (k < 2 ^ d)
    of (b, whole, above, most) = (
      λ h. omega (arith, pow_mono {i = b} {j = d} (omega arith)),
      λ h. ⊎_elim (λ (short : d < b). absurd (omega (arith, two-pow-succ d, pow_mono {i = suc d} {j = b} (omega arith)))) (λ (enough : b ≤ d). omega arith) (cases_lt d b),
    )

-- a cell from its parts
pub number_at : (T : ℕ) (s : Coefficient) → 1 ≤ T → cell_number T s ≡ 16 * (tiles_before (T - 1 - band s) + tile s) + slot s
number_at zero s h = absurd (omega arith)
number_at (suc top) s h = ap (λ x. 16 * (tiles_before (x - band s) + tile s) + slot s) (sym (sub-one (suc top)))

pub before_most : (d : ℕ) → d ≤ 5 → tiles_before d ≤ 69905
unfolding tiles_before
before_most d h = rising tiles_before before_rises d 5 h

-- an index in the tree
pub index_most : (T j k : ℕ) → InTree T j k → k < 2 ^ 20
index_most T j k i = omega (arith, i.few, i.inside, pow_mono {i = 4 * T - j} {j = 20} (omega (arith, i.few)))

-- the tile of a coefficient inside the size is one of its band
pub tile_inside : (T : ℕ) (s : Coefficient) → 1 ≤ T → Inside (4 * T) s → tile s < 16 ^ (T - 1 - band s)
tile_inside zero s h i = absurd (omega arith)
tile_inside (suc top) (TileSum t k) h i = subst (λ x. k < 16 ^ (x - t)) (sym (sub-one (suc top))) (inside_placed top (4 * suc top) (TileSum t k) (omega arith) i).1
tile_inside (suc top) (Difference j k) h i = subst (λ x. k / 2 ^ depth j < 16 ^ (x - (j - 1) / 4)) (sym (sub-one (suc top))) (inside_placed top (4 * suc top) (Difference j k) (omega arith) i).1

-- an index without its high bits
masked : (k h m : ℕ) → m + 1 ≡ 2 ^ h → bit_and k m ≡ k % 2 ^ h
masked k h m e = let w : m ≡ 2 ^ h - 1 = omega arith in ap (bit_and k) w ∙ and_mask k h

-- a level's slots: as many as its row is wide, and all below 16
pub row_slots : (k h m : ℕ) → h ≤ 3 → m + 1 ≡ 2 ^ h → (bit_and k m ≡ k % 2 ^ h) × (2 ^ h + k % 2 ^ h < 16)
row_slots k h m few e =
    let most : 2 ^ h ≤ 2 ^ 3 = pow_mono few in
    (masked k h m e, omega (arith, mod-lt k (pow_pos h)))

-- a difference's cell from slot 0 of its tile
pub difference_parts : (T j k first at : ℕ) → 1 ≤ T → first ≡ cell_number T (TileSum ((j - 1) / 4) (k / 2 ^ depth j)) → at ≡ slot (Difference j k) → first + at ≡ cell_number T (Difference j k)
difference_parts T j k first at some e f = omega (arith, number_at T (TileSum ((j - 1) / 4) (k / 2 ^ depth j)) some, number_at T (Difference j k) some)

-- all tiles of five bands, less those below: a sixteenth for each band fewer
pub tiles_left : (d : ℕ) → d ≤ 5 → 69905 / 2 ^ (4 * (5 - d)) ≡ tiles_before d
unfolding tiles_before
tiles_left zero h = refl
tiles_left (suc zero) h = refl
tiles_left (suc (suc zero)) h = refl
tiles_left (suc (suc (suc zero))) h = refl
tiles_left (suc (suc (suc (suc zero)))) h = refl
tiles_left (suc (suc (suc (suc (suc zero))))) h = refl
tiles_left (suc (suc (suc (suc (suc (suc d)))))) h = absurd (omega arith)

-- a tile of a store is one of the 69,905 of five bands
pub tile_most : (T t k : ℕ) → T ≤ 5 → t < T → k < 16 ^ (T - 1 - t) → tiles_before (T - 1 - t) + k + 1 ≤ 69905
tile_most T t k few held inside = omega (arith, before_suc (T - 1 - t), before_most (suc (T - 1 - t)) (omega arith))
