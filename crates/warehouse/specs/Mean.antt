-- The mean of minutes, from their sum and their count.
--   Nearest z d q   of whole numbers, q is the nearest to the d-th part of z; and the even one, where two are as near
--   floor z d       the greatest whole number that is not over it
--   rest z d        what z has over d times that
--   mean_of z d     the nearest, by computing
use Rattle.std.specs.Prelude.{◌≡◌, ℕ, ◌+◌, ◌-◌, ◌*◌, ◌/◌, ◌%◌, ◌≤◌, Bool, cond, ℤ, pos, negsuc, ◌+ℤ◌, ◌-ℤ◌, ◌*ℤ◌, nat_lt, unsigned_abs}

-- twice what the sum z of d minutes differs from q in each of them
abbrev pub twice_off : ℤ → ℕ → ℤ → ℕ
twice_off z d q = 2 * unsigned_abs (z -ℤ q *ℤ pos d)

pub record Nearest (z : ℤ) (d : ℕ) (q : ℤ) : Type 0 where
  pub near : twice_off z d q ≤ d
  pub even : twice_off z d q ≡ d → unsigned_abs q % 2 ≡ 0

abbrev pub floor : ℤ → ℕ → ℤ
floor (pos s) d = pos (s / d)
floor (negsuc s) d = negsuc (s / d)

abbrev pub rest : ℤ → ℕ → ℕ
rest (pos s) d = s % d
rest (negsuc s) d = d - 1 - s % d

-- the rest is more than half of d; or exactly half, and the floor odd
abbrev pub goes_up : ℤ → ℕ → Bool
goes_up z d = nat_lt d (2 * rest z d + unsigned_abs (floor z d) % 2)

abbrev pub mean_of : ℤ → ℕ → ℤ
mean_of z d = cond (goes_up z d) (floor z d +ℤ pos 1) (floor z d)
