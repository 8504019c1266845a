-- A bottom tile's minutes, read from its sum by halves.
use Rattle.std.proofs.Common.{◌≡◌, ℕ, zero, suc, ◌+◌, ◌-◌, ◌*◌, ◌/◌, ◌%◌, ◌^◌, ◌<◌, ◌≤◌, min, Bool, true, false, cond, eqb, ltb, List, [], ◌∷◌, ◌++◌, length, get_or, set, ℤ, pos, negsuc, ◌+ℤ◌, ◌-ℤ◌, nat_abs, Ok, Err, Result, sym, refl, ap, ◌∙◌, subst, ap₂, ⊎_elim, add-zero, mul-one, one-mul, mul_assoc, mul_comm, pow-add, pow_mono, length-append, arith}
use Rattle.std.proofs.Math.Nat.{add-mul}
use Rattle.std.proofs.lemmas.Int.{ints}
use Rattle.std.proofs.lemmas.List.{get_or_append_left, get_or-append_right}
use Rattle.std.proofs.lemmas.Bool.{cases_lt, cases_eq, eq-eqb, ne_eqb, lt-ltb, le-ltb, cond-true, cond-false}
use Rattle.haar.specs.declared.coefficient.Coefficient.TheVariants.{TileSum, Difference}
use Rattle.haar.specs.Tiles.{cell_number}
use Rattle.warehouse.specs.declared.fault.Fault.{Fault}
use Rattle.warehouse.specs.declared.fault.Fault.TheVariants.{Torn}
use Rattle.warehouse.specs.Ask.{sum_in}
use Rattle.warehouse.specs.Read.{◌then◌, look, sight, half, halve, beside, lower, descend, start, first_cell, read}
use Rattle.warehouse.specs.Tile.{FirstFault, AllRead, Spread, TileMinutes, tile_minute}
use Rattle.warehouse.specs.View.{View}
use Rattle.warehouse.proofs.Descents.{read_small}
use Rattle.warehouse.proofs.Halves.{Small}

-- the halves of an even sum make up the sum
halves : (z w : ℤ) → nat_abs (z +ℤ w) % 2 ≡ 0 → half (z -ℤ w) ≡ z -ℤ half (z +ℤ w)
halves z w e = go (z +ℤ w) (z -ℤ w) e (omega (arith, ints))
  where
    go : (s d : ℤ) → nat_abs s % 2 ≡ 0 → s +ℤ d ≡ z +ℤ z → half d ≡ z -ℤ half s
    go (pos a) (pos b) e q = omega (arith, ints)
    go (pos a) (negsuc b) e q = omega (arith, ints)
    go (negsuc a) (pos b) e q = omega (arith, ints)
    go (negsuc a) (negsuc b) e q = omega (arith, ints)

-- the right half, where the left one was read
right_of : (c k : ℕ) (s d x : ℤ) → halve c (2 * k) s d ≡ Ok x → halve c (2 * k + 1) s d ≡ Ok (s -ℤ x)
right_of c k s d x e =
    ⊎_elim
    (λ (even : nat_abs (s +ℤ d) % 2 ≡ 0).
    let here : (i : ℕ) → halve c i s d ≡ Ok (cond (eqb (i % 2) 0) (half (s +ℤ d)) (half (s -ℤ d))) = λ i. cond-true (eqb (nat_abs (s +ℤ d) % 2) 0) _ (Err (Torn c)) (eq-eqb _ _ even) in
    let left : half (s +ℤ d) ≡ x = ok_is (sym (here (2 * k) ∙ ap Ok (cond-true (eqb (2 * k % 2) 0) _ _ (eq-eqb _ _ (omega arith)))) ∙ e) in
    here (2 * k + 1) ∙ ap Ok (cond-false (eqb ((2 * k + 1) % 2) 0) _ _ (ne_eqb _ _ (λ q. omega arith)) ∙ halves s d even ∙ ap (λ x. s -ℤ x) left))
    (λ (odd : nat_abs (s +ℤ d) % 2 ≡ 0 → ⊥). absurd (err_ok (sym (cond-false (eqb (nat_abs (s +ℤ d) % 2) 0) _ (Err (Torn c)) (ne_eqb _ _ odd)) ∙ e)))
    (cases_eq (nat_abs (s +ℤ d) % 2) 0)
  where
    ok_is : {x y : ℤ} → ◌≡◌ {A = Result ℤ Fault} (Ok x) (Ok y) → x ≡ y
    ok_is e = cc

    err_ok : {f : Fault} {y : ℤ} → ◌≡◌ {A = Result ℤ Fault} (Err f) (Ok y) → ⊥
    err_ok e = let z : ◌≡◌ {A = ℕ} 0 1 = cc in omega arith

-- the neighbours share their difference
module _ (T : ℕ) (look : ℕ → Result ℤ Fault) (j k : ℕ) (s : ℤ) where
  abbrev cell : ℕ → ℕ
  cell i = cell_number T (Difference (suc j) i)

  pub lower_right : (x : ℤ) → lower T look j (2 * k) s ≡ Ok x → lower T look j (2 * k + 1) s ≡ Ok (s -ℤ x)
  unfolding lower
  lower_right x e =
      let q : (2 * k + 1) / 2 ≡ 2 * k / 2 = omega arith in
      ap (λ i. ◌then◌ (sight (cell i) (look (cell i))) (halve (cell i) (2 * k + 1) s)) q
      ∙ go (sight (cell (2 * k / 2)) (look (cell (2 * k / 2)))) e
    where
      go : (r : Result ℤ Fault) → ◌then◌ r (halve (cell (2 * k / 2)) (2 * k) s) ≡ Ok x → ◌then◌ r (halve (cell (2 * k / 2)) (2 * k + 1) s) ≡ Ok (s -ℤ x)
      go (Ok d) e = right_of (cell (2 * k / 2)) k s d x e
      go (Err f) e = let z : ◌≡◌ {A = ℕ} 0 1 = cc in absurd (omega arith)

two_pow : (j : ℕ) → 2 ^ suc j ≡ 2 ^ j + 2 ^ j
two_pow j = let e : suc j ≡ j + 1 = omega arith in ap (λ l. 2 ^ l) e ∙ pow-add 2 j 1 ∙ twice (2 ^ j)
  where
    twice : (x : ℕ) → x * 2 ≡ x + x
    twice x = omega arith

twice_over : (k j : ℕ) → k * 2 ^ suc j ≡ 2 * k * 2 ^ j
twice_over k j = let e : suc j ≡ 1 + j = omega arith in ap (λ l. k * 2 ^ l) e ∙ ap (λ x. k * x) (pow-add 2 1 j) ∙ sym (mul_assoc k 2 (2 ^ j)) ∙ ap (λ x. x * 2 ^ j) (mul_comm k 2)

module _ (v : View) where
  abbrev T : ℕ
  T = v.store.bands

  -- a sum of the bottom band, from its tile's slot 0
  bottom : (j k : ℕ) → j ≤ 4 → sum_in v j k ≡ descend T (look v.store) (cell_number T (TileSum 0 (k / 2 ^ (4 - j)))) j k (min 4 v.size - j)
  unfolding read
  bottom j k h =
      let z : (j - 1) / 4 ≡ 0 = omega arith in
      ap (λ b. descend T (look v.store) (cell_number T (TileSum b (k / 2 ^ (4 * b + 4 - j)))) j k (min (4 * b + 4) v.size - j)) z

  same_tile : (j k : ℕ) → j < 4 → k / 2 / 2 ^ (4 - suc j) ≡ k / 2 ^ (4 - j)
  same_tile zero k h = omega arith
  same_tile (suc zero) k h = omega arith
  same_tile (suc (suc zero)) k h = omega arith
  same_tile (suc (suc (suc zero))) k h = omega arith
  same_tile (suc (suc (suc (suc j)))) k h = absurd (omega arith)

  sum_step : (j k : ℕ) → j < 4 → j < v.size → sum_in v j k ≡ ◌then◌ (sum_in v (suc j) (k / 2)) (lower T (look v.store) j k)
  unfolding descend
  sum_step j k a b =
      let d : min 4 v.size - j ≡ suc (min 4 v.size - suc j) = omega arith in
      bottom j k (omega arith)
      ∙ ap (descend T (look v.store) (cell_number T (TileSum 0 (k / 2 ^ (4 - j)))) j k) d
      ∙ ap (λ c. ◌then◌ (descend T (look v.store) (cell_number T (TileSum 0 c)) (suc j) (k / 2) (min 4 v.size - suc j)) (lower T (look v.store) j k)) (sym (same_tile j k a))
      ∙ ap (λ r. ◌then◌ r (lower T (look v.store) j k)) (sym (bottom (suc j) (k / 2) (omega arith)))

  pub sum_small : (j k : ℕ) (s : ℤ) → sum_in v j k ≡ Ok s → nat_abs s ≤ 2 ^ 56
  sum_small j k s e = subst Small e (read_small T v.size (look v.store) j k)

  -- a sum that cannot be read is named by the first minute under it
  pub fault_down : (j k : ℕ) (f : Fault) → j ≤ 4 → j ≤ v.size → sum_in v j k ≡ Err f → sum_in v 0 (k * 2 ^ j) ≡ Err f
  fault_down zero k f a b e = ap (sum_in v 0) (mul-one k) ∙ e
  fault_down (suc j) k f a b e =
      let q : 2 * k / 2 ≡ k = omega arith in
      ap (sum_in v 0) (twice_over k j)
      ∙ fault_down j (2 * k) f (omega arith) (omega arith) (sum_step j (2 * k) (omega arith) (omega arith) ∙ ap (λ r. ◌then◌ r (lower T (look v.store) j (2 * k))) (ap (sum_in v (suc j)) q ∙ e))

  -- below the sum s of level l and index i
  module _ (l i : ℕ) (some : 0 < l) (low : l ≤ 4) (size : l ≤ v.size) (s : ℤ) (e : sum_in v l i ≡ Ok s) where
    half_of : (k : ℕ) → k / 2 ≡ i → sum_in v (l - 1) k ≡ lower T (look v.store) (l - 1) k s
    half_of k q =
        let a : suc (l - 1) ≡ l = omega arith in
        sum_step (l - 1) k (omega arith) (omega arith) ∙ ap (λ r. ◌then◌ r (lower T (look v.store) (l - 1) k)) (ap₂ (sum_in v) a q ∙ e)

    pub left_sum : sum_in v (l - 1) (2 * i) ≡ lower T (look v.store) (l - 1) (2 * i) s
    left_sum = half_of (2 * i) (omega arith)

    pub right_sum : (x : ℤ) → lower T (look v.store) (l - 1) (2 * i) s ≡ Ok x → sum_in v (l - 1) (2 * i + 1) ≡ Ok (s -ℤ x)
    right_sum x d = half_of (2 * i + 1) (omega arith) ∙ lower_right T (look v.store) (l - 1) i s x d

    pub left_lost : (f : Fault) → lower T (look v.store) (l - 1) (2 * i) s ≡ Err f → sum_in v 0 (2 * i * 2 ^ (l - 1)) ≡ Err f
    left_lost f d = fault_down (l - 1) (2 * i) f (omega arith) (omega arith) (left_sum ∙ d)

-- where the halves start
pub half_len : (l : ℕ) → 0 < l → 2 ^ l ≡ 2 ^ (l - 1) + 2 ^ (l - 1)
half_len l h = let e : l ≡ suc (l - 1) = omega arith in ap (λ l. 2 ^ l) e ∙ two_pow (l - 1)

pub half_start : (i l : ℕ) → 0 < l → 2 * i * 2 ^ (l - 1) ≡ i * 2 ^ l
half_start i l h = let e : l ≡ suc (l - 1) = omega arith in sym (ap (λ l. i * 2 ^ l) e ∙ twice_over i (l - 1))

pub half_next : (i l : ℕ) → 0 < l → (2 * i + 1) * 2 ^ (l - 1) ≡ i * 2 ^ l + 2 ^ (l - 1)
half_next i l h = add-mul (2 * i) 1 (2 ^ (l - 1)) ∙ ap₂ ◌+◌ (half_start i l h) (one-mul (2 ^ (l - 1)))

module _ (P : ℕ → Result ℤ Fault) where
  pub first_lost : (a len : ℕ) (f : Fault) → 0 < len → P a ≡ Err f → FirstFault P a len f
  first_lost a len f h e = record { at = 0; inside = h; faulty = ap P (add-zero a) ∙ e; before = λ i b. absurd (omega arith) }

  -- two halves of h each
  module _ (a b c h len : ℕ) (left : b ≡ a) (right : c ≡ a + h) (whole : len ≡ h + h) where
    pub low_lost : (f : Fault) → FirstFault P b h f → FirstFault P a len f
    low_lost f d = let l = d.inside in record { at = d.at; inside = omega arith; faulty = ap (λ x. P (x + d.at)) (sym left) ∙ d.faulty; before = λ i n. let r = d.before i n in (r.0, ap (λ x. P (x + i)) (sym left) ∙ r.1) }

    module _ (xs : List ℤ) (many : length xs ≡ h) (all : AllRead P b xs) where
      in_low : (i : ℕ) → i < h → P (a + i) ≡ Ok (get_or xs i (pos 0))
      in_low i n = ap (λ x. P (x + i)) (sym left) ∙ all i (omega arith)

      in_high : (i : ℕ) → h ≤ i → P (a + i) ≡ P (c + (i - h))
      in_high i n = let e : a + i ≡ c + (i - h) = omega arith in ap P e

      pub high_lost : (f : Fault) → FirstFault P c h f → FirstFault P a len f
      high_lost f d =
          let l = d.inside in
          let e : h + d.at - h ≡ d.at = omega arith in
          record {
            at = h + d.at;
            inside = omega arith;
            faulty = in_high (h + d.at) (omega arith) ∙ ap (λ x. P (c + x)) e ∙ d.faulty;
            before = λ i n. ⊎_elim (λ (lt : i < h). (get_or xs i (pos 0), in_low i lt)) (λ (ge : h ≤ i). let r = d.before (i - h) (omega arith) in (r.0, in_high i ge ∙ r.1)) (cases_lt i h);
          }

      pub both_read : (ys : List ℤ) → length ys ≡ h → AllRead P c ys → AllRead P a (xs ++ ys)
      both_read ys n more i k =
          let l = length-append xs ys in
          ⊎_elim
          (λ (lt : i < h). in_low i lt ∙ ap Ok (sym (get_or_append_left xs ys (pos 0) i (omega arith))))
          (λ (ge : h ≤ i). in_high i ge ∙ more (i - h) (omega arith) ∙ ap Ok (sym (get_or-append_right xs ys h i (pos 0) many ge)))
          (cases_lt i h)

      pub halves_read : (ys : List ℤ) (r : Result Unit Fault) → length ys ≡ h → Spread P c h r ys → Spread P a len r (xs ++ ys)
      halves_read ys (Ok u) n s = both_read ys n s
      halves_read ys (Err f) n s = high_lost f s

-- the first of some numbers replaced
pub put_first : (xs : List ℤ) (y : ℤ) (n : ℕ) → length xs ≡ n → 0 < n → (length (set xs 0 y) ≡ n) × (get_or (set xs 0 y) 0 (pos 0) ≡ y)
put_first [] y n e h = absurd (omega arith)
put_first (x ∷ xs) y n e h = (e, refl)

-- a half's index lies inside the size, where the whole's does
pub halved_index : (n l i k : ℕ) → 0 < l → l ≤ n → i < 2 ^ (n - l) → k ≤ 2 * i + 1 → k < 2 ^ (n - (l - 1))
halved_index n l i k some low inside h =
    let e : n - (l - 1) ≡ suc (n - l) = omega arith in
    rw e (omega (arith, two_pow (n - l)))

-- a minute is what stands there
pub one_read : (v : View) (i : ℕ) (xs : List ℤ) → sum_in v 0 i ≡ Ok (get_or xs 0 (pos 0)) → length xs ≡ 1 → AllRead (sum_in v 0) i xs
one_read v i xs e n j h =
    let z : j ≡ 0 = omega arith in
    ap (λ j. sum_in v 0 (i + j)) z ∙ ap (sum_in v 0) (add-zero i) ∙ e ∙ ap (λ j. Ok (get_or xs j (pos 0))) (sym z)

-- an interval inside the size lies inside the bands
pub in_bands : (n T j k : ℕ) → j ≤ n → n ≤ 4 * T → k < 2 ^ (n - j) → (j ≤ 4 * T) × (k < 2 ^ (4 * T - j))
in_bands n T j k low fits inside = let p : 2 ^ (n - j) ≤ 2 ^ (4 * T - j) = pow_mono {i = n - j} {j = 4 * T - j} (omega arith) in (omega arith, omega arith)
