-- A chunk's share of a coefficient, from the chunk's own tree.
use Rattle.std.proofs.Common.{◌≡◌, ℕ, zero, suc, ◌+◌, ◌-◌, ◌*◌, ◌/◌, ◌%◌, ◌^◌, ◌<◌, ◌≤◌, min, List, ℤ, neg_ℤ, sym, ap, ◌∙◌, mod-lt, div-add-mod', ap₂, pow-add, div-one, arith, pow_pos}
use lib.Pow.{high, low}
use lib.Pow.{low as low_part}
use native.Mathlib.Nat.{two-pow-succ}
use Rattle.std.proofs.lemmas.Bool.{eq-eqb, ne_eqb}
use Rattle.haar.specs.Tree.{S, D}
use Rattle.haar.specs.declared.coefficient.Coefficient.TheVariants.{TileSum, Difference}
use Rattle.haar.specs.Haar.{value}
use Rattle.haar.specs.Load.{Chunk}
use Rattle.loads.specs.Reach.{Meets, Sits, first_met}
use Rattle.loads.proofs.Meeting.{local_index, row_of}
use Rattle.loads.proofs.Places.{row_below}
use Rattle.haar.specs.Tiles.{depth}
use Rattle.haar.specs.declared.coefficient.Coefficient.{Coefficient}
use Rattle.loads.specs.Share.{minutes, alone}
use Rattle.haar.proofs.Split.{value_whole, splits, shift_suc}
use Rattle.haar.proofs.Load.{shifted_S, shifted_D}

module _ (m p : ℕ) (zs : List ℤ) where
  pub minutes_chunk : Chunk m p (minutes m p zs)
  unfolding minutes
  minutes_chunk i out = rw (ne_eqb (i / 2 ^ m) p out)

  pub minutes_at : (i : ℕ) → i < 2 ^ m → minutes m p zs (p * 2 ^ m + i) ≡ alone zs i
  unfolding minutes
  minutes_at i h = rw (high p m h, low p m h, eq-eqb p p (omega arith))

  own_sum : S (minutes m p zs) m p ≡ S (alone zs) m 0
  own_sum =
      let z : m - m ≡ 0 = omega arith in
      let e : p ≡ p * 2 ^ (m - m) + 0 = rw z (omega arith) in
      ap (S (minutes m p zs) m) e ∙ shifted_S m p m 0 (minutes m p zs) (alone zs) (omega arith) (pow_pos (m - m)) minutes_at

  -- the index of a touched interval not above the chunk
  moved : (j k : ℕ) → j ≤ m → k / 2 ^ (m - j) ≡ p / 2 ^ (j - m) → k ≡ p * 2 ^ (m - j) + k % 2 ^ (m - j)
  moved j k h e =
      let z : j - m ≡ 0 = omega arith in
      let f : k / 2 ^ (m - j) ≡ p = e ∙ ap (λ x. p / 2 ^ x) z ∙ div-one p in
      sym (div-add-mod' k (2 ^ (m - j))) ∙ ap (λ x. x * 2 ^ (m - j) + k % 2 ^ (m - j)) f

  pub share_diff : (n j k : ℕ) → 1 ≤ j → j ≤ m → Meets n m p (Difference j k) → D (alone zs) j (k % 2 ^ (m - j)) ≡ value n (minutes m p zs) (Difference j k)
  share_diff n zero k a h me = absurd (omega arith)
  share_diff n (suc j) k a h me =
      sym (shifted_D m p j (k % 2 ^ (m - suc j)) (minutes m p zs) (alone zs) h (mod-lt k (pow_pos (m - suc j))) minutes_at)
      ∙ ap (D (minutes m p zs) (suc j)) (sym (moved (suc j) k h me.touched))

  pub share_sum : (n t k : ℕ) → 4 * t + 4 ≤ m → m ≤ n → Meets n m p (TileSum t k) → S (alone zs) (4 * t + 4) (k % 2 ^ (m - (4 * t + 4))) ≡ value n (minutes m p zs) (TileSum t k)
  share_sum n t k h l me =
      let r : min (4 * t + 4) n ≡ 4 * t + 4 = omega arith in
      sym (shifted_S m p (4 * t + 4) (k % 2 ^ (m - (4 * t + 4))) (minutes m p zs) (alone zs) h (mod-lt k (pow_pos (m - (4 * t + 4)))) minutes_at)
      ∙ ap (S (minutes m p zs) (4 * t + 4)) (sym (moved (4 * t + 4) k h (rw r at me.touched)))
      ∙ sym (value_whole n (minutes m p zs) t k me.inside ∙ ap (λ x. S (minutes m p zs) x k) r)

  -- the index of a touched interval above the chunk
  halved : (j k : ℕ) → m < j → k / 2 ^ (m - j) ≡ p / 2 ^ (j - m) → k ≡ p / 2 ^ (j - 1 - m) / 2
  halved j k h e =
      let w : 0 ≡ m - j = omega arith in
      let v : j - m ≡ suc (j - 1 - m) = omega arith in
      let z : k ≡ k / 2 ^ (m - j) = sym (div-one k) ∙ ap (λ x. k / 2 ^ x) w in
      z ∙ e ∙ ap (λ x. p / 2 ^ x) v ∙ shift_suc p (j - 1 - m)

  pub share_left : (n j k : ℕ) → m ≤ n → m < j → p / 2 ^ (j - 1 - m) % 2 ≡ 0 → Meets n m p (Difference j k) → S (alone zs) m 0 ≡ value n (minutes m p zs) (Difference j k)
  share_left n j k l h z me =
      let e = halved j k h me.touched in
      sym ((splits m p (minutes m p zs) minutes_chunk n l).left j k h (omega arith) ∙ own_sum)

  pub share_right : (n j k : ℕ) → m ≤ n → m < j → p / 2 ^ (j - 1 - m) % 2 ≡ 1 → Meets n m p (Difference j k) → neg_ℤ (S (alone zs) m 0) ≡ value n (minutes m p zs) (Difference j k)
  share_right n j k l h z me =
      let e = halved j k h me.touched in
      sym ((splits m p (minutes m p zs) minutes_chunk n l).right j k h (omega arith) ∙ ap neg_ℤ own_sum)

  pub share_over : (n t k : ℕ) → m ≤ n → m ≤ 4 * t + 4 → Meets n m p (TileSum t k) → S (alone zs) m 0 ≡ value n (minutes m p zs) (TileSum t k)
  share_over n t k l h me = sym ((splits m p (minutes m p zs) minutes_chunk n l).over t k me.inside h me.touched ∙ own_sum)

  -- the slots of a tile inside the chunk, counted from the first tile of its band
  module _ (n t at : ℕ) (whole : 4 * t + 4 ≤ m) (low : m ≤ n) (few : at < 16 * 2 ^ (m - (4 * t + 4))) where
    pub share_whole : at % 16 ≡ 0 → (s : Coefficient) → Meets n m p s → Sits s t (first_met m p (4 * t + 4) + at / 16) (at % 16) → S (alone zs) (4 * t + 4) (at / 16) ≡ value n (minutes m p zs) s
    share_whole z (Difference j k) me si = absurd (omega (arith, si.slot, pow_pos (depth j)))
    share_whole z (TileSum t' k) me si =
        ap (S (alone zs) (4 * t + 4)) (local_index m p (4 * t + 4) (at / 16) whole (omega arith))
        ∙ ap₂ (λ x y. S (alone zs) (4 * x + 4) (y % 2 ^ (m - (4 * x + 4)))) (sym si.band) (sym si.tile)
        ∙ share_sum n t' k (omega (arith, si.band)) low me

    pub share_row : (h : ℕ) → h ≤ 3 → 2 ^ h ≤ at % 16 → at % 16 < 2 * 2 ^ h → (s : Coefficient) → Meets n m p s → Sits s t (first_met m p (4 * t + 4) + at / 16) (at % 16) → D (alone zs) (4 * t + 4 - h) (at / 16 * 2 ^ h + at % 16 - 2 ^ h) ≡ value n (minutes m p zs) s
    share_row h l lo hi (TileSum t' k) me si = absurd (omega (arith, si.slot, pow_pos h))
    share_row h l lo hi (Difference j k) me si =
        let e = row_of (depth j) h (k % 2 ^ depth j) (mod-lt k (pow_pos (depth j))) (omega (arith, si.slot)) (omega (arith, si.slot, hi, two-pow-succ h)) in
        let q : 4 * t + 4 - h ≡ j = omega (arith, e, si.band, me.inside) in
        ap₂ (D (alone zs)) q (own_index e) ∙ share_diff n j k me.inside.0 (omega arith) me
      where
        own_index : depth j ≡ h → at / 16 * 2 ^ h + at % 16 - 2 ^ h ≡ k % 2 ^ (m - j)
        own_index e =
            let a = m - (4 * t + 4) in
            let x = p / 2 ^ (4 * t + 4 - m) in
            let w : 2 ^ (m - j) ≡ 2 ^ a * 2 ^ h = ap (λ x. 2 ^ x) (omega (arith, e, si.band, me.inside)) ∙ pow-add 2 a h in
            let d : k / 2 ^ h * 2 ^ h + k % 2 ^ h ≡ k = div-add-mod' k (2 ^ h) in
            let q : k / 2 ^ h ≡ x * 2 ^ a + at / 16 = ap (λ z. k / 2 ^ z) (sym e) ∙ si.tile in
            let r : 2 ^ h + k % 2 ^ h ≡ at % 16 = ap (λ z. 2 ^ z + k % 2 ^ z) (sym e) ∙ si.slot in
            let f : k ≡ x * 2 ^ (m - j) + (at / 16 * 2 ^ h + at % 16 - 2 ^ h) = omega (arith, d, ap (λ z. z * 2 ^ h) q, ap (λ z. x * z) w, r) in
            let y : m - (4 * t + 4 - h) ≡ m - j = omega (arith, e, si.band, me.inside) in
            sym (low_part x (m - j) (rw y at (row_below m t at whole few h l hi))) ∙ ap (λ z. z % 2 ^ (m - j)) (sym f)
