-- What a chunk adds to each coefficient.
use Rattle.std.proofs.Common.{◌≡◌, ℕ, zero, suc, ◌+◌, ◌-◌, ◌*◌, ◌/◌, ◌^◌, ◌<◌, ◌≤◌, min, ℤ, pos, neg_ℤ, sym, ap, ◌∙◌, ap₂, ⊎_elim, add-zero, add-suc, mul-le-mul_right, lt_of_mul-lt-mul_right, pow-suc, div-one, arith, pow_mono, pow-add, shr-shr}
use native.Mathlib.Nat.{add-sub_cancel_left, div-div-eq-div-mul, div-eq_of_lt-le}
use Rattle.std.proofs.lemmas.Bool.{cases_lt}
use Rattle.std.proofs.lemmas.Int.{ints}
use Rattle.haar.specs.Tree.{plain_sum, S, D}
use Rattle.haar.specs.declared.coefficient.Coefficient.{Coefficient}
use Rattle.haar.specs.declared.coefficient.Coefficient.TheVariants.{TileSum, Difference}
use Rattle.haar.specs.Tiles.{Inside}
use Rattle.haar.specs.Haar.{value}
use Rattle.haar.specs.Load.{Chunk, level, Touched, Splits}
use Rattle.haar.proofs.Sums.{total_zero, halves, D_suc}
use Rattle.haar.proofs.Numbers.{sixteen}

-- a minute of the interval (j,k)
minute : (j k i : ℕ) → k * 2 ^ j ≤ i → i < k * 2 ^ j + 2 ^ j → i / 2 ^ j ≡ k
minute j k i a b = div-eq_of_lt-le (2 ^ j) a (omega arith)

-- half of a shift
pub shift_suc : (p d : ℕ) → p / 2 ^ suc d ≡ p / 2 ^ d / 2
shift_suc p d = rw pow-suc (sym (div-div-eq-div-mul p (2 ^ d) 2))

-- an interval of zeros
pub off_S : (g : ℕ → ℤ) (j k : ℕ) → ((i : ℕ) → i / 2 ^ j ≡ k → g i ≡ pos 0) → S g j k ≡ pos 0
off_S g j k z = total_zero g (k * 2 ^ j) (2 ^ j) (λ i a b. z i (minute j k i a b))

pub off_D : (g : ℕ → ℤ) (j k : ℕ) → ((i : ℕ) → i / 2 ^ suc j ≡ k → g i ≡ pos 0) → D g (suc j) k ≡ pos 0
off_D g j k z =
    omega (arith, ints, D_suc g j k, off_S g j (2 * k) (λ i e. z i (omega (arith, shift_suc i j))), off_S g j (2 * k + 1) (λ i e. z i (omega (arith, shift_suc i j))))

-- a minute of two intervals
meet : (l k m p i : ℕ) → i / 2 ^ l ≡ k → i / 2 ^ m ≡ p → k / 2 ^ (m - l) ≡ p / 2 ^ (l - m)
meet l k m p i a b =
    ap (λ x. x / 2 ^ (m - l)) (sym a) ∙ shr-shr i l (m - l) ∙ ap (λ x. i / 2 ^ x) (omega arith) ∙ sym (shr-shr i m (l - m)) ∙ ap (λ x. x / 2 ^ (l - m)) b

-- a tile's sum as an S
pub value_whole : (n : ℕ) (f : ℕ → ℤ) (t k : ℕ) → Inside n (TileSum t k) → value n f (TileSum t k) ≡ S f (min (4 * t + 4) n) k
value_whole n f t k i =
    let e : 16 ^ (t + 1) ≡ 2 ^ (4 * t + 4) = sixteen (t + 1) ∙ ap (λ x. 2 ^ x) (omega arith) in
    ⊎_elim (λ low. small e low) (λ high. large e high) (cases_lt n (4 * t + 4))
  where
    small : 16 ^ (t + 1) ≡ 2 ^ (4 * t + 4) → n < 4 * t + 4 → value n f (TileSum t k) ≡ S f (min (4 * t + 4) n) k
    small e low =
        let r : min (4 * t + 4) n ≡ n = omega arith in
        let a : 2 ^ n ≤ 2 ^ (4 * t + 4) = pow_mono {j = 4 * t + 4} (omega arith) in
        let z : k < 1 = lt_of_mul-lt-mul_right (16 ^ (t + 1)) (omega arith) in
        let z : k ≡ 0 = omega arith in
        rw (r, z) (ap₂ (plain_sum f) (omega arith) (omega arith))

    large : 16 ^ (t + 1) ≡ 2 ^ (4 * t + 4) → 4 * t + 4 ≤ n → value n f (TileSum t k) ≡ S f (min (4 * t + 4) n) k
    large e high =
        let r : min (4 * t + 4) n ≡ 4 * t + 4 = omega arith in
        let a : 2 ^ n ≡ 2 ^ (n - (4 * t + 4)) * 2 ^ (4 * t + 4) = ap (λ x. 2 ^ x) (omega arith) ∙ pow-add 2 (n - (4 * t + 4)) (4 * t + 4) in
        let b : k < 2 ^ (n - (4 * t + 4)) = lt_of_mul-lt-mul_right (2 ^ (4 * t + 4)) (rw (← a, ← e) i.1) in
        let c : suc k * 2 ^ (4 * t + 4) ≤ 2 ^ n = rw a (mul-le-mul_right (2 ^ (4 * t + 4)) b) in
        rw (r, e) (ap (plain_sum f (k * 2 ^ (4 * t + 4))) (omega arith))

module _ (m p : ℕ) (g : ℕ → ℤ) (chunk : Chunk m p g) where
  -- no minute of an untouched interval is in the chunk
  untouched : (l k : ℕ) → (k / 2 ^ (m - l) ≡ p / 2 ^ (l - m) → ⊥) → (i : ℕ) → i / 2 ^ l ≡ k → g i ≡ pos 0
  untouched l k un i e = chunk i (λ e'. un (meet l k m p i e e'))

  -- the index of the touched interval of a level not below the chunk
  level_up : (l k : ℕ) → m ≤ l → k / 2 ^ (m - l) ≡ p / 2 ^ (l - m) → k ≡ p / 2 ^ (l - m)
  level_up l k h e =
      let z : 0 ≡ m - l = omega arith in
      sym (div-one k) ∙ ap (λ x. k / 2 ^ x) z ∙ e

  -- the other intervals of a level not below the chunk
  beside : (d k : ℕ) → (k ≡ p / 2 ^ d → ⊥) → S g (m + d) k ≡ pos 0
  beside d k un = off_S g (m + d) k (untouched (m + d) k (λ e. un (level_up (m + d) k (omega arith) e ∙ ap (λ x. p / 2 ^ x) (add-sub_cancel_left m d))))

  -- one step up the root path
  left_up : (d k : ℕ) → p / 2 ^ d ≡ 2 * k → S g (m + d) (p / 2 ^ d) ≡ S g m p → (S g (suc (m + d)) k ≡ S g m p) × (D g (suc (m + d)) k ≡ S g m p)
  left_up d k e h =
      let here : S g (m + d) (2 * k) ≡ S g m p = ap (S g (m + d)) (sym e) ∙ h in
      let there = beside d (2 * k + 1) (λ b. omega arith) in
      (omega (arith, ints, halves g (m + d) k), omega (arith, ints, D_suc g (m + d) k))

  right_up : (d k : ℕ) → p / 2 ^ d ≡ 2 * k + 1 → S g (m + d) (p / 2 ^ d) ≡ S g m p → (S g (suc (m + d)) k ≡ S g m p) × (D g (suc (m + d)) k ≡ neg_ℤ (S g m p))
  right_up d k e h =
      let here : S g (m + d) (2 * k + 1) ≡ S g m p = ap (S g (m + d)) (sym e) ∙ h in
      let there = beside d (2 * k) (λ b. omega arith) in
      (omega (arith, ints, halves g (m + d) k), omega (arith, ints, D_suc g (m + d) k))

  -- the sum over the chunk, at every level of the root path
  over : (d : ℕ) → S g (m + d) (p / 2 ^ d) ≡ S g m p
  over zero = ap₂ (S g) (add-zero m) (div-one p)
  over (suc d) = rw (add-suc, shift_suc p d) (grind (arith, left_up d (p / 2 ^ d / 2), right_up d (p / 2 ^ d / 2), over d))

  pub splits : (n : ℕ) → m ≤ n → Splits n m p g
  splits n h =
      record {
        untouched = none;
        left = λ j k l e. ap (λ x. D g x k) (from j l) ∙ (left_up (j - 1 - m) k e (over (j - 1 - m))).1;
        right = λ j k l e. ap (λ x. D g x k) (from j l) ∙ (right_up (j - 1 - m) k e (over (j - 1 - m))).1;
        over = λ t k i l e. value_whole n g t k i ∙ ap₂ (S g) (omega arith) (level_up (level n (TileSum t k)) k (omega arith) e) ∙ over (level n (TileSum t k) - m);
      }
    where
      from : (j : ℕ) → m < j → j ≡ suc (m + (j - 1 - m))
      from j h = omega arith

      none : (s : Coefficient) → Inside n s → (Touched n m p s → ⊥) → value n g s ≡ pos 0
      none (TileSum t k) i un = value_whole n g t k i ∙ off_S g _ k (untouched (min (4 * t + 4) n) k un)
      none (Difference zero k) i un = absurd (omega arith)
      none (Difference (suc j) k) i un = off_D g j k (untouched (suc j) k un)
