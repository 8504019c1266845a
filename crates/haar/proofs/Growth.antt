-- Growth keeps the Haar cells.
use Rattle.std.proofs.Common.{◌≡◌, ℕ, zero, suc, ◌+◌, ◌-◌, ◌*◌, ◌/◌, ◌%◌, ◌^◌, ◌<◌, ◌≤◌, min, ◌⊎◌, ℤ, pos, sym, refl, ap, ◌∙◌, subst, ap₂, inl, inr, ⊎_elim, mul-le-mul_right, lt_of_mul-lt-mul_right, div-mul-le_self, arith, pow_pos, pow_mono, pow-add}
use native.Mathlib.Nat.{two-pow-succ}
use Rattle.std.proofs.lemmas.Bool.{cases_lt, cases_eq}
use Rattle.std.proofs.lemmas.Int.{ints}
use Rattle.haar.specs.Tree.{plain_sum, S, D}
use Rattle.haar.specs.declared.coefficient.Coefficient.{Coefficient}
use Rattle.haar.specs.declared.coefficient.Coefficient.TheVariants.{TileSum, Difference}
use Rattle.haar.specs.Tiles.{Inside, cell_number, cell_count}
use Rattle.haar.specs.Haar.{value, HaarCells}
use Rattle.haar.specs.Growth.{Blank, Fills, Grown}
use Rattle.haar.proofs.Sums.{total_zero, total_add, halves, D_suc}
use Rattle.haar.proofs.Numbers.{sixteen, one_coefficient, inside_below}
use Rattle.haar.proofs.Haar.{same_coefficient, inside_or_not}
use Rattle.haar.proofs.Split.{off_D, value_whole}

inside_grows : (n : ℕ) (s : Coefficient) → Inside n s → Inside (suc n) s
inside_grows n (TileSum t k) i = (⊎_elim inl (λ h. inr (omega arith)) i.0, omega (arith, two-pow-succ n))
inside_grows n (Difference j k) i =
    let p : 2 ^ (n - j) ≤ 2 ^ (suc n - j) = pow_mono {i = n - j} {j = suc n - j} (omega arith) in
    (omega arith, omega arith, omega arith)

-- minutes past 2^n add nothing
longer : (f : ℕ → ℤ) (a l b b' : ℕ) → b ≤ b' → ((i : ℕ) → b ≤ i → f i ≡ pos 0) → plain_sum f a (min l (b' - a)) ≡ plain_sum f a (min l (b - a))
longer f a l b b' h z =
    let x : ℕ = min l (b - a) in
    let y : ℕ = min l (b' - a) - x in
    let e : min l (b' - a) ≡ x + y = omega arith in
    rw e (omega (arith, ints, total_add f a x y, total_zero f (a + x) y (λ i lo hi. z i (omega arith))))

value_grows : (n : ℕ) (f : ℕ → ℤ) (s : Coefficient) → Blank n f → value (suc n) f s ≡ value n f s
value_grows n f (TileSum t k) z = longer f (k * 16 ^ (t + 1)) (16 ^ (t + 1)) (2 ^ n) (2 ^ suc n) (omega (arith, two-pow-succ n)) z
value_grows n f (Difference j k) z = refl

module _ (T n : ℕ) (f cells : ℕ → ℤ) (room : n < 4 * T) (blank : Blank n f) (haar : HaarCells T n f cells) where
  -- a coefficient that comes inside, other than the two that are written
  comes : (s : Coefficient) → Inside (suc n) s → (Inside n s → ⊥) → (s ≡ Difference (suc n) 0 → ⊥) → (Fills n → s ≡ TileSum (n / 4) 0 → ⊥) → value (suc n) f s ≡ pos 0
  comes (TileSum t k) i out a b =
      ⊎_elim
      (λ (lo : k * 16 ^ (t + 1) < 2 ^ n).
      let u : 0 < t = ⊎_elim (λ h. h) (λ h. absurd (out (inl (omega arith), lo))) (cases_lt 0 t) in
      let v : n ≤ 4 * t = ⊎_elim (λ h. absurd (out (inr h, lo))) (λ h. h) (cases_lt (4 * t) n) in
      let w : n ≡ 4 * t = omega arith in
      let x : 2 ^ n ≤ 2 ^ (4 * (t + 1)) = pow_mono {j = 4 * (t + 1)} (omega arith) in
      let y : k < 1 = lt_of_mul-lt-mul_right (16 ^ (t + 1)) (omega (arith, sixteen (t + 1))) in
      absurd (b (omega arith) (ap₂ TileSum (omega arith) (omega arith))))
      (λ hi. total_zero f (k * 16 ^ (t + 1)) _ (λ m lo _. blank m (omega arith)))
      (cases_lt (k * 16 ^ (t + 1)) (2 ^ n))
  comes (Difference zero k) i out a b = absurd (omega arith)
  comes (Difference (suc j) k) i out a b =
      ⊎_elim
      (λ (l : j < n).
      let u : 2 ^ (n - suc j) ≤ k = ⊎_elim (λ h. absurd (out (omega arith, l, h))) (λ h. h) (cases_lt k (2 ^ (n - suc j))) in
      let v : 2 ^ n ≡ 2 ^ (n - suc j) * 2 ^ suc j = ap (λ x. 2 ^ x) (omega arith) ∙ pow-add 2 (n - suc j) (suc j) in
      off_D f j k (λ m e. blank m (omega (arith, mul-le-mul_right (2 ^ suc j) u, div-mul-le_self m (2 ^ suc j), ap (λ x. x * 2 ^ suc j) e))))
      (λ l.
      let e : suc n - suc j ≡ 0 = omega arith in
      let u : k < 1 = rw (← ap (λ x. 2 ^ x) e) i.2 in
      absurd (a (ap₂ Difference (omega arith) (omega arith))))
      (cases_lt j n)

  -- the cell of a coefficient that is not written
  kept : (s : Coefficient) → Inside (suc n) s → (s ≡ Difference (suc n) 0 → ⊥) → (Fills n → s ≡ TileSum (n / 4) 0 → ⊥) → cells (cell_number T s) ≡ value (suc n) f s
  kept s i a b =
      ⊎_elim (λ here. haar.held s here ∙ sym (value_grows n f s blank))
      (λ out. haar.empty (cell_number T s) (inside_below T (suc n) s (omega arith) room i) (λ s' i' e. out (subst (Inside n) (one_coefficient T (suc n) s' s (omega arith) room (inside_grows n s' i') i e) i')) ∙ sym (comes s i out a b))
      (inside_or_not n s)

  top_inside : Inside (suc n) (Difference (suc n) 0)
  top_inside = (omega arith, omega arith, pow_pos (suc n - suc n))

  tile_inside : Fills n → Inside (suc n) (TileSum (n / 4) 0)
  tile_inside h = (inr (omega arith), omega (arith, pow_pos (suc n)))

  all_new : S f n 1 ≡ pos 0
  all_new = total_zero f (1 * 2 ^ n) (2 ^ n) (λ i lo _. blank i (omega arith))

  top_value : D f (suc n) 0 ≡ S f n 0
  top_value = omega (arith, ints, D_suc f n 0, all_new)

  tile_value : Fills n → value (suc n) f (TileSum (n / 4) 0) ≡ S f n 0
  tile_value h =
      let e : min (4 * (n / 4) + 4) (suc n) ≡ suc n = omega arith in
      value_whole (suc n) f (n / 4) 0 (tile_inside h) ∙ ap (λ x. S f x 0) e ∙ omega (arith, ints, halves f n 0, all_new)

  new_tile_or_not : (s : Coefficient) → (Fills n × (s ≡ TileSum (n / 4) 0)) ⊎ (Fills n × (s ≡ TileSum (n / 4) 0) → ⊥)
  new_tile_or_not s = grind (arith, cases_lt 0 n, cases_eq (n % 4) 0, same_coefficient s (TileSum (n / 4) 0))

  pub growth : (y : ℕ → ℤ) → Grown T n (S f n 0) cells y → HaarCells T (suc n) f y
  growth y grown = record { held = held; empty = empty }
    where
      coefficient : (s s' : Coefficient) → Inside (suc n) s → Inside (suc n) s' → cell_number T s ≡ cell_number T s' → s ≡ s'
      coefficient s s' = one_coefficient T (suc n) s s' (omega arith) room

      Holds : Coefficient → Type 0
      Holds s = y (cell_number T s) ≡ value (suc n) f s

      held : (s : Coefficient) → Inside (suc n) s → Holds s
      held s i =
          ⊎_elim (λ e. subst Holds (sym e) (grown.top ∙ sym top_value))
          (λ a.
          ⊎_elim (λ h. subst Holds (sym h.1) (grown.tile h.0 ∙ sym (tile_value h.0)))
          (λ b. grown.kept (cell_number T s) (inside_below T (suc n) s (omega arith) room i) (λ e. a (coefficient s _ i top_inside e)) (λ h e. b (h, coefficient s _ i (tile_inside h) e)) ∙ kept s i a (λ h e. b (h, e)))
          (new_tile_or_not s))
          (same_coefficient s (Difference (suc n) 0))

      empty : (c : ℕ) → c < cell_count T → ((s : Coefficient) → Inside (suc n) s → cell_number T s ≡ c → ⊥) → y c ≡ pos 0
      empty c b none =
          grown.kept c b (λ e. none _ top_inside (sym e)) (λ h e. none _ (tile_inside h) (sym e)) ∙ haar.empty c b (λ s i. none s (inside_grows n s i))
