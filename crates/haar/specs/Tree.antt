-- Sums of minutes, and the sums S and differences D of the minute tree.
use Rattle.std.specs.Prelude.{ℕ, zero, suc, ◌+◌, ◌-◌, ◌*◌, ◌^◌, ℤ, pos, ◌+ℤ◌, ◌-ℤ◌}

-- the sum of the len minutes from a
unfoldable pub plain_sum : (ℕ → ℤ) → ℕ → ℕ → ℤ
plain_sum f a zero = pos 0
plain_sum f a (suc len) = plain_sum f a len +ℤ f (a + len)

-- S(j,k): the sum of the 2^j minutes from k * 2^j
abbrev pub S : (ℕ → ℤ) → ℕ → ℕ → ℤ
S f j k = plain_sum f (k * 2 ^ j) (2 ^ j)

-- D(j,k): left half less right half
abbrev pub D : (ℕ → ℤ) → ℕ → ℕ → ℤ
D f j k = S f (j - 1) (2 * k) -ℤ S f (j - 1) (2 * k + 1)
