-- The sixteen minutes of a bottom tile: those under its sum, and zeros past the size.
use Rattle.std.proofs.Common.{◌≡◌, ℕ, suc, ◌+◌, ◌-◌, ◌*◌, ◌^◌, ◌<◌, ◌≤◌, min, ltb, List, [], ◌∷◌, ◌++◌, length, get_or, drop, replicate, ℤ, pos, Ok, Err, Result, sym, refl, ap, ◌∙◌, subst, ⊎_elim, add-zero, pow_pos, pow_mono, pow-add, length-append, length-drop, arith}
use Rattle.std.proofs.lemmas.List.{get_or_append_left, get_or-append_right, get_or-replicate, get_or-drop}
use Rattle.std.proofs.lemmas.Bool.{cases_lt, lt-ltb, le-ltb, cond-true, cond-false}
use Rattle.warehouse.specs.declared.fault.Fault.{Fault}
use Rattle.warehouse.specs.Ask.{sum_in}
use Rattle.warehouse.specs.Tile.{FirstFault, AllRead, Spread, tile_minute}
use Rattle.warehouse.specs.View.{View}
use Rattle.warehouse.proofs.Spread.{fault_down}

-- tiles past the size
pub past_size : (n k : ℕ) → 2 ^ (n - min n 4) ≤ k → 2 ^ n ≤ 16 * k
past_size n k h =
    ⊎_elim
    (λ (lt : n < 4). let e : n - min n 4 ≡ 0 = omega arith in let o = ap (λ x. 2 ^ x) e in let m : 2 ^ n ≤ 2 ^ 4 = pow_mono {i = n} {j = 4} (omega arith) in omega arith)
    (λ (ge : 4 ≤ n). let e : n - min n 4 ≡ n - 4 = omega arith in let o = ap (λ x. 2 ^ x) e in let d = whole n ge in omega arith)
    (cases_lt n 4)
  where
    whole : (n : ℕ) → 4 ≤ n → 2 ^ n ≡ 2 ^ (n - 4) * 16
    whole n h = let e : n ≡ n - 4 + 4 = omega arith in ap (λ x. 2 ^ x) e ∙ pow-add 2 (n - 4) 4

-- a tile inside
module _ (n k : ℕ) (h : k < 2 ^ (n - min n 4)) where
  pub start_is : k * 2 ^ min n 4 ≡ 16 * k
  start_is =
      ⊎_elim
      (λ (lt : n < 4). let e : n - min n 4 ≡ 0 = omega arith in let o = ap (λ x. 2 ^ x) e in let z : k ≡ 0 = omega arith in ap (λ k. k * 2 ^ min n 4) z ∙ zero-times (2 ^ min n 4) ∙ ap (λ k. 16 * k) (sym z))
      (λ (ge : 4 ≤ n). let e : min n 4 ≡ 4 = omega arith in ap (λ m. k * 2 ^ m) e ∙ times k)
      (cases_lt n 4)
    where
      zero-times : (x : ℕ) → 0 * x ≡ 16 * 0
      zero-times x = omega arith

      times : (k : ℕ) → k * 16 ≡ 16 * k
      times k = omega arith

  pub end_inside : 16 * k + 2 ^ min n 4 ≤ 2 ^ n
  end_inside =
      ⊎_elim
      (λ (lt : n < 4). let e : n - min n 4 ≡ 0 = omega arith in let o = ap (λ x. 2 ^ x) e in let q : min n 4 ≡ n = omega arith in let s = ap (λ x. 2 ^ x) q in omega arith)
      (λ (ge : 4 ≤ n).
      let e : n - min n 4 ≡ n - 4 = omega arith in
      let o = ap (λ x. 2 ^ x) e in
      let q : min n 4 ≡ 4 = omega arith in
      let s = ap (λ x. 2 ^ x) q in
      let a : n ≡ n - 4 + 4 = omega arith in
      let d = ap (λ x. 2 ^ x) a ∙ pow-add 2 (n - 4) 4 in
      omega arith)
      (cases_lt n 4)

pub few : (n : ℕ) → 2 ^ min n 4 ≤ 16
few n = pow_mono {i = min n 4} {j = 4} (omega arith)

-- past the places of a tile's minutes the size ends
pub rest_past : (n k i : ℕ) → k < 2 ^ (n - min n 4) → 2 ^ min n 4 ≤ i → i < 16 → 2 ^ n ≤ 16 * k + i
rest_past n k i h a b =
    ⊎_elim
    (λ (lt : n < 4). let q : min n 4 ≡ n = omega arith in let s = ap (λ x. 2 ^ x) q in omega arith)
    (λ (ge : 4 ≤ n). let q : min n 4 ≡ 4 = omega arith in let s = ap (λ x. 2 ^ x) q in absurd (omega arith))
    (cases_lt n 4)

module _ (v : View) (k : ℕ) where
  minute_inside : (i : ℕ) → i < 2 ^ v.size → tile_minute v i ≡ sum_in v 0 i
  minute_inside i h = cond-true (ltb i (2 ^ v.size)) (sum_in v 0 i) (Ok (pos 0)) (lt-ltb _ _ h)

  pub minute_past : (i : ℕ) → 2 ^ v.size ≤ i → tile_minute v i ≡ Ok (pos 0)
  minute_past i h = cond-false (ltb i (2 ^ v.size)) (sum_in v 0 i) (Ok (pos 0)) (le-ltb _ _ h)

  module _ (h : k < 2 ^ (v.size - min v.size 4)) where
    abbrev start : ℕ
    start = k * 2 ^ min v.size 4

    inside : (i : ℕ) → i < 2 ^ min v.size 4 → tile_minute v (16 * k + i) ≡ sum_in v 0 (start + i)
    inside i l = minute_inside (16 * k + i) (omega (arith, end_inside v.size k h)) ∙ ap (λ s. sum_in v 0 (s + i)) (sym (start_is v.size k h))

    pub tile_lost : (f : Fault) → FirstFault (sum_in v 0) start (2 ^ min v.size 4) f → FirstFault (tile_minute v) (16 * k) 16 f
    tile_lost f d =
        let l = d.inside in
        record {
          at = d.at;
          inside = omega (arith, few v.size);
          faulty = inside d.at l ∙ d.faulty;
          before = λ i b. let r = d.before i b in (r.0, inside i (omega arith) ∙ r.1);
        }

    pub sum_lost : (f : Fault) → sum_in v (min v.size 4) k ≡ Err f → FirstFault (tile_minute v) (16 * k) 16 f
    sum_lost f e =
        tile_lost f (record { at = 0; inside = pow_pos (min v.size 4); faulty = ap (sum_in v 0) (add-zero start) ∙ fault_down v (min v.size 4) k f (omega arith) (omega arith) e; before = λ i b. absurd (omega arith) })

    pub tile_read : (xs ys : List ℤ) → length xs ≡ 2 ^ min v.size 4 → AllRead (sum_in v 0) start xs → ((i : ℕ) → 2 ^ min v.size 4 ≤ i → i < 16 → get_or ys (i - 2 ^ min v.size 4) (pos 0) ≡ pos 0) → length (xs ++ ys) ≡ 16 → AllRead (tile_minute v) (16 * k) (xs ++ ys)
    tile_read xs ys many all zeros sixteen i l =
        ⊎_elim
        (λ (lt : i < 2 ^ min v.size 4). inside i lt ∙ all i (omega arith) ∙ ap Ok (sym (get_or_append_left xs ys (pos 0) i (omega arith))))
        (λ (ge : 2 ^ min v.size 4 ≤ i). minute_past (16 * k + i) (rest_past v.size k i h ge (omega arith)) ∙ ap Ok (sym (get_or-append_right xs ys (2 ^ min v.size 4) i (pos 0) many ge ∙ zeros i ge (omega arith))))
        (cases_lt i (2 ^ min v.size 4))

-- all sixteen past the size
pub all_past : (v : View) (k : ℕ) → 2 ^ (v.size - min v.size 4) ≤ k → (i : ℕ) → i < 16 → tile_minute v (16 * k + i) ≡ Ok (get_or (replicate 16 (pos 0)) i (pos 0))
all_past v k h i l = minute_past v k (16 * k + i) (omega (arith, past_size v.size k h)) ∙ ap Ok (sym (get_or-replicate 16 i (pos 0) (pos 0) l))

-- the zeros after the first place
pub zeros_after : (x : ℤ) (m i : ℕ) → 0 < m → m ≤ i → i < 16 → get_or (drop m (x ∷ replicate 15 (pos 0))) (i - m) (pos 0) ≡ pos 0
zeros_after x m i some le h =
    let e : m + (i - m) ≡ suc (i - 1) = omega arith in
    get_or-drop m (x ∷ replicate 15 (pos 0)) (i - m) (pos 0) ∙ ap (λ j. get_or (x ∷ replicate 15 (pos 0)) j (pos 0)) e ∙ get_or-replicate 15 (i - 1) (pos 0) (pos 0) (omega arith)
