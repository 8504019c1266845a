-- The numbering of cells.
use Rattle.std.proofs.Common.{◌≡◌, ℕ, zero, suc, ◌+◌, ◌-◌, ◌*◌, ◌/◌, ◌%◌, ◌^◌, ◌<◌, ◌≤◌, refl, ap, ◌∙◌, ap₂, ⊎_elim, mod-lt, lt_of_mul-lt-mul_right, mul-suc, arith, pow_pos, pow_mono, pow-add, shr_lt}
use native.Mathlib.Nat.{pow-succ', two-pow-succ}
use lib.Pow.{high, low, split}
use Rattle.haar.specs.declared.coefficient.Coefficient.{Coefficient}
use Rattle.haar.specs.declared.coefficient.Coefficient.TheVariants.{TileSum, Difference}
use Rattle.haar.specs.Tiles.{tiles_before, slot, depth, cell_number, cell_count, Inside}
use Rattle.std.proofs.lemmas.Bool.{cases_lt}
use Rattle.haar.proofs.Ladder.{rising, same_step, find_step}

pub sixteen : (d : ℕ) → 16 ^ d ≡ 2 ^ (4 * d)
sixteen zero = refl
sixteen (suc d) = rw (pow-succ', sixteen d, mul-suc, pow-add) (omega arith)

pub before_suc : (d : ℕ) → tiles_before (suc d) ≡ tiles_before d + 16 ^ d
unfolding tiles_before
before_suc d = rw (pow-succ', sixteen d) (omega (arith, pow_pos (4 * d)))

pub same_pow : (i j : ℕ) → i ≡ j → 2 ^ i ≡ 2 ^ j
same_pow i j e = ap (λ x. 2 ^ x) e

pub before_rises : (d : ℕ) → tiles_before d ≤ tiles_before (suc d)
before_rises d = omega (arith, before_suc d)

-- a coefficient of a store whose top band is `top`
abbrev pub Placed : ℕ → Coefficient → Type 0
Placed top (TileSum t k) = (t ≤ top) × (k < 16 ^ (top - t))
Placed top (Difference j k) = ((j - 1) / 4 ≤ top) × (k / 2 ^ depth j < 16 ^ (top - (j - 1) / 4)) × (1 ≤ j)

-- a cell's number tells its band, tile and slot
unplace : (top t k s t' k' s' : ℕ) → t ≤ top → k < 16 ^ (top - t) → s < 16 → t' ≤ top → k' < 16 ^ (top - t') → s' < 16 → 16 * (tiles_before (top - t) + k) + s ≡ 16 * (tiles_before (top - t') + k') + s' → (t ≡ t') × (k ≡ k') × (s ≡ s')
unplace top t k s t' k' s' a b c a' b' c' e =
    let d : top - t ≡ top - t' =
    same_step tiles_before before_rises (top - t) (top - t') (tiles_before (top - t) + k) (omega arith) (omega (arith, before_suc (top - t))) (omega arith) (omega (arith, before_suc (top - t'))) in
    let f : tiles_before (top - t) ≡ tiles_before (top - t') = ap tiles_before d in
    (omega arith, omega arith, omega arith)

-- a slot past 0 tells the level and the place in it
unslot : (h r h' r' : ℕ) → r < 2 ^ h → r' < 2 ^ h' → 2 ^ h + r ≡ 2 ^ h' + r' → (h ≡ h') × (r ≡ r')
unslot h r h' r' b b' e =
    let d : h ≡ h' = same_step (λ x. 2 ^ x) (λ h. pow_mono (omega arith)) h h' (2 ^ h + r) (omega arith) (omega (arith, two-pow-succ h)) (omega arith) (omega (arith, two-pow-succ h')) in
    let f : 2 ^ h ≡ 2 ^ h' = ap (λ x. 2 ^ x) d in
    (d, omega arith)

rest_bound : (j k : ℕ) → k % 2 ^ depth j < 2 ^ depth j
rest_bound j k = mod-lt k (pow_pos (depth j))

pub slot_bound : (j k : ℕ) → 1 ≤ j → slot (Difference j k) < 16
slot_bound j k l =
    let p : 2 ^ depth j ≤ 2 ^ 3 = pow_mono {j = 3} (omega arith) in
    omega (arith, rest_bound j k)

pub injective : (top : ℕ) (s s' : Coefficient) → Placed top s → Placed top s' → cell_number (suc top) s ≡ cell_number (suc top) s' → s ≡ s'
injective top (TileSum t k) (TileSum t' k') p p' e =
    let u = unplace top t k 0 t' k' 0 p.0 p.1 (omega arith) p'.0 p'.1 (omega arith) e in
    ap₂ TileSum u.0 u.1
injective top (TileSum t k) (Difference j k') p p' e =
    let u = unplace top t k 0 _ _ _ p.0 p.1 (omega arith) p'.0 p'.1 (slot_bound j k' p'.2) e in
    absurd (omega (arith, pow_pos (depth j)))
injective top (Difference j k) (TileSum t k') p p' e =
    let u = unplace top _ _ _ t k' 0 p.0 p.1 (slot_bound j k p.2) p'.0 p'.1 (omega arith) e in
    absurd (omega (arith, pow_pos (depth j)))
injective top (Difference j k) (Difference j' k') p p' e =
    let u = unplace top _ _ _ _ _ _ p.0 p.1 (slot_bound j k p.2) p'.0 p'.1 (slot_bound j' k' p'.2) e in
    let v = unslot (depth j) (k % 2 ^ depth j) (depth j') (k' % 2 ^ depth j') (rest_bound j k) (rest_bound j' k') u.2 in
    let a = split k (depth j) in
    let b = split k' (depth j') in
    ap₂ Difference (omega arith) (cc (u.1, v.0, v.1, a, b))

-- the coefficient of a tile's slot 0, and of another slot
at_whole : (top d k : ℕ) → d ≤ top → k < 16 ^ d → (s : Coefficient) × Placed top s × (cell_number (suc top) s ≡ 16 * (tiles_before d + k))
at_whole top d k a b =
    let e : top - (top - d) ≡ d = omega arith in
    (TileSum (top - d) k, (omega arith, rw e b), rw e (omega arith))

at_diff : (top d k h r : ℕ) → d ≤ top → k < 16 ^ d → h ≤ 3 → r < 2 ^ h → (s : Coefficient) × Placed top s × (cell_number (suc top) s ≡ 16 * (tiles_before d + k) + (2 ^ h + r))
at_diff top d k h r a b c g =
    let j : ℕ = 4 * (top - d) + 4 - h in
    let e : top - (j - 1) / 4 ≡ d = omega arith in
    let f : depth j ≡ h = omega arith in
    let q : (k * 2 ^ h + r) / 2 ^ depth j ≡ k = ap (λ x. (k * 2 ^ h + r) / 2 ^ x) f ∙ high k h g in
    let m : (k * 2 ^ h + r) % 2 ^ depth j ≡ r = ap (λ x. (k * 2 ^ h + r) % 2 ^ x) f ∙ low k h g in
    let w : 16 ^ (top - (j - 1) / 4) ≡ 16 ^ d = ap (λ x. 16 ^ x) e in
    (Difference j (k * 2 ^ h + r), (omega arith, omega arith, omega arith), cc (e, f, q, m))

at_slot : (top d k s : ℕ) → d ≤ top → k < 16 ^ d → s < 16 → (x : Coefficient) × Placed top x × (cell_number (suc top) x ≡ 16 * (tiles_before d + k) + s)
at_slot top d k s a b c =
    ⊎_elim (λ (p : 0 < s). other (find_step (λ x. 2 ^ x) (λ h. pow_mono (omega arith)) 3 s p c))
    (λ (z : s ≤ 0). let w = at_whole top d k a b in (w.0, w.1, omega arith)) (cases_lt 0 s)
  where
    other : (h : ℕ) × (h ≤ 3) × (2 ^ h ≤ s) × (s < 2 ^ suc h) → (x : Coefficient) × Placed top x × (cell_number (suc top) x ≡ 16 * (tiles_before d + k) + s)
    other (h, l, lo, hi) =
        let w = at_diff top d k h (s - 2 ^ h) a b l (omega (arith, two-pow-succ h)) in
        (w.0, w.1, w.2 ∙ omega arith)

-- every cell has a coefficient
pub decode : (top c : ℕ) → c < cell_count (suc top) → (s : Coefficient) × Placed top s × (cell_number (suc top) s ≡ c)
unfolding tiles_before
decode top c h = go (find_step tiles_before before_rises top (c / 16) (omega arith) (omega arith))
  where
    go : (d : ℕ) × (d ≤ top) × (tiles_before d ≤ c / 16) × (c / 16 < tiles_before (suc d)) → (s : Coefficient) × Placed top s × (cell_number (suc top) s ≡ c)
    go (d, l, lo, hi) =
        let e : 16 * (tiles_before d + (c / 16 - tiles_before d)) + c % 16 ≡ c = omega arith in
        rw e at (at_slot top d (c / 16 - tiles_before d) (c % 16) l (omega (arith, before_suc d)) (omega arith))

-- a coefficient inside the size is placed
pub inside_placed : (top n : ℕ) (s : Coefficient) → n ≤ 4 * suc top → Inside n s → Placed top s
inside_placed top n (TileSum t k) h i =
    let a : t ≤ top = omega arith in
    let p : 2 ^ n ≤ 2 ^ (4 * suc top) = pow_mono h in
    let e : 16 ^ suc top ≡ 16 ^ (top - t) * 16 ^ (t + 1) = ap (λ x. 16 ^ x) (omega arith) ∙ pow-add 16 (top - t) (t + 1) in
    (a, lt_of_mul-lt-mul_right (16 ^ (t + 1)) (omega (arith, sixteen (suc top))))
inside_placed top n (Difference j k) h i =
    let p : 2 ^ (n - j) ≤ 2 ^ (4 * (top - (j - 1) / 4) + depth j) = pow_mono {j = 4 * (top - (j - 1) / 4) + depth j} (omega arith) in
    (omega arith, rw sixteen (shr_lt (4 * (top - (j - 1) / 4)) (depth j) (omega arith)), i.0)

-- a placed coefficient's cell is below the count
pub number_below : (top : ℕ) (s : Coefficient) → Placed top s → cell_number (suc top) s < cell_count (suc top)
number_below top (TileSum t k) p =
    omega (arith, before_suc (top - t), rising tiles_before before_rises (suc (top - t)) (suc top) (omega arith))
number_below top (Difference j k) p =
    omega (arith, slot_bound j k p.2, before_suc (top - (j - 1) / 4), rising tiles_before before_rises (suc (top - (j - 1) / 4)) (suc top) (omega arith))

-- the same of the coefficients inside a size
pub one_coefficient : (T n : ℕ) (s s' : Coefficient) → 1 ≤ T → n ≤ 4 * T → Inside n s → Inside n s' → cell_number T s ≡ cell_number T s' → s ≡ s'
one_coefficient zero n s s' a h i i' e = absurd (omega arith)
one_coefficient (suc top) n s s' a h i i' e = injective top s s' (inside_placed top n s h i) (inside_placed top n s' h i') e

pub inside_below : (T n : ℕ) (s : Coefficient) → 1 ≤ T → n ≤ 4 * T → Inside n s → cell_number T s < cell_count T
inside_below zero n s a h i = absurd (omega arith)
inside_below (suc top) n s a h i = number_below top s (inside_placed top n s h i)
