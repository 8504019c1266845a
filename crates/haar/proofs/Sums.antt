-- Laws of sums of minutes.
use Rattle.std.proofs.Common.{◌≡◌, ℕ, zero, suc, ◌+◌, ◌-◌, ◌*◌, ◌^◌, ◌<◌, ◌≤◌, ℤ, pos, ◌+ℤ◌, ◌-ℤ◌, ◌*ℤ◌, sym, refl, add-zero, add_assoc, add-suc, sub-one, arith}
use native.Mathlib.Nat.{two-pow-succ}
use Rattle.std.proofs.lemmas.Int.{ints}
use Rattle.haar.specs.Tree.{plain_sum, S, D}

-- one sum after another
pub total_add : (f : ℕ → ℤ) (a x y : ℕ) → plain_sum f a (x + y) ≡ plain_sum f a x +ℤ plain_sum f (a + x) y
unfolding plain_sum
total_add f a x zero = rw add-zero (omega (arith, ints))
total_add f a x (suc y) = rw (add-suc, add_assoc a x y) (omega (arith, ints, total_add f a x y))

-- the sum of f + g
pub total_plus : (f g : ℕ → ℤ) (a len : ℕ) → plain_sum (λ i. f i +ℤ g i) a len ≡ plain_sum f a len +ℤ plain_sum g a len
unfolding plain_sum
total_plus f g a zero = refl
total_plus f g a (suc len) = omega (arith, ints, total_plus f g a len)

-- a sum of zeros
pub total_zero : (f : ℕ → ℤ) (a len : ℕ) → ((i : ℕ) → a ≤ i → i < a + len → f i ≡ pos 0) → plain_sum f a len ≡ pos 0
unfolding plain_sum
total_zero f a zero e = refl
total_zero f a (suc len) e =
    omega (arith, ints, total_zero f a len (λ i h k. e i h (omega arith)), e (a + len) (omega arith) (omega arith))

-- the two halves of S(j+1,k)
pub halves : (f : ℕ → ℤ) (j k : ℕ) → S f j (2 * k) +ℤ S f j (2 * k + 1) ≡ S f (suc j) k
halves f j k =
    let l : 2 * k * 2 ^ j ≡ k * (2 ^ j + 2 ^ j) = omega arith in
    let r : (2 * k + 1) * 2 ^ j ≡ k * (2 ^ j + 2 ^ j) + 2 ^ j = omega arith in
    rw (two-pow-succ j, l, r) (sym (total_add f (k * (2 ^ j + 2 ^ j)) (2 ^ j) (2 ^ j)))

-- D one level up
pub D_suc : (f : ℕ → ℤ) (j k : ℕ) → D f (suc j) k ≡ S f j (2 * k) -ℤ S f j (2 * k + 1)
D_suc f j k = rw sub-one

-- both halves from S and D
pub both_halves : (f : ℕ → ℤ) (j k : ℕ) → 1 ≤ j → (S f (j - 1) (2 * k) +ℤ S f (j - 1) (2 * k + 1) ≡ S f j k) × (pos 2 *ℤ S f (j - 1) (2 * k) ≡ S f j k +ℤ D f j k) × (pos 2 *ℤ S f (j - 1) (2 * k + 1) ≡ S f j k -ℤ D f j k)
both_halves f zero k h = absurd (omega arith)
both_halves f (suc j) k h = rw sub-one (halves f j k, omega (arith, ints, halves f j k), omega (arith, ints, halves f j k))

-- the first interval of a range, and the rest
pub range_step : (f : ℕ → ℤ) (a b j k : ℕ) → a ≡ k * 2 ^ j → a + 2 ^ j ≤ b → plain_sum f a (b - a) ≡ S f j k +ℤ plain_sum f (a + 2 ^ j) (b - (a + 2 ^ j))
range_step f a b j k e h =
    let l : b - a ≡ 2 ^ j + (b - (a + 2 ^ j)) = omega arith in
    rw (l, ← e) (total_add f a (2 ^ j) (b - (a + 2 ^ j)))
